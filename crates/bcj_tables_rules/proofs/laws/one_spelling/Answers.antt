use Rattle.bcj_tables_rules.proofs.laws.one_spelling.Goals as goal
use Rattle.bcj_tables_rules.proofs.Conclusions as law

pub returns : goal.returns
returns c = law.one_spelling
