use Rattle.std.proofs.Common.{◌≡◌, ◌++◌, map, drop}
use Rattle.bcj_typing_node.specs.Typings.{pairs_of}
use Rattle.bcj_typing_member.specs.Steps.{step_of}
use Rattle.bcj_typing_member.proofs.pairs.copy_steps.Given as goal

abbrev pub invariant-loop-step : goal.invariant-loop-step
invariant-loop-step l = pairs_of l.pairs ++ map step_of (drop l.step-index l.steps) ≡ map step_of l.steps
