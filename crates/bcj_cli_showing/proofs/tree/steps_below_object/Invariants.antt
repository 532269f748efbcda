use Rattle.bcj_cli_showing.proofs.Climbs.{Climb}
use Rattle.bcj_cli_showing.proofs.tree.steps_below_object.Given as goal

abbrev pub invariant-loop-steps : goal.invariant-loop-steps
invariant-loop-steps l = Climb l.hier l.fn.class l.at l.steps
