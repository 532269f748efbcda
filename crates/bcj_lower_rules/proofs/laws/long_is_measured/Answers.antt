use Rattle.bcj_lower_rules.proofs.Measured as law
use Rattle.bcj_lower_rules.proofs.laws.long_is_measured.Goals as goal

pub returns : goal.returns
returns c = law.long_is_measured
