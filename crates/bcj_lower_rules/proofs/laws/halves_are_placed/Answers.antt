use Rattle.bcj_lower_rules.proofs.PlacedNodes as law
use Rattle.bcj_lower_rules.proofs.laws.halves_are_placed.Goals as goal

pub returns : goal.returns
returns c = law.halves_are_placed
