use Rattle.bcj_linker_rows.proofs.CallLemmas.{without_code, with_code_there}

pub ruleset call_rules = (without_code, with_code_there)
