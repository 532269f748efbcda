use Rattle.bcj_asm.proofs.Reached.{reached, opposite_else, taken_tested}
use Rattle.bcj_asm.proofs.laws.labels_are_reached.Goals as goal

pub returns : goal.returns
returns c = record { reached = reached; opposite = opposite_else; tested = taken_tested }
