use Rattle.bcj_lower.proofs.TableLemmas.{with_uses-append, numbered}

pub ruleset table_rules = (with_uses-append, numbered)
