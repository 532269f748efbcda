use Rattle.bcj_tables_rules.proofs.laws.no_spelling_is_refused.Goals as goal
use Rattle.bcj_tables_rules.proofs.Conclusions as law

pub returns : goal.returns
returns c = law.refuses_no_spelling
