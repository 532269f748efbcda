use Rattle.bcj_lower_soundness.proofs.RangedNodes.{method_ranged, init_ranged}
use Rattle.bcj_lower_soundness.proofs.lines_are_items.Goals as goal

pub returns : goal.returns
returns c = record { methods = method_ranged; initialiser = init_ranged }
