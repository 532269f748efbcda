use Rattle.bcj_tables_rules.proofs.laws.only_spellings_are_read.Goals as goal
use Rattle.bcj_tables_rules.proofs.Conclusions as law

pub returns : goal.returns
returns c = law.reads_only_spellings
