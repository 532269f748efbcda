use Rattle.std.proofs.Common.{◌≡◌, map, drop, []}
use Rattle.bcj_typing_node.specs.Typings.{pairs_of}
use Rattle.bcj_typing_member.specs.Steps.{step_of, with_all_listed}
use Rattle.bcj_typing_member.proofs.pairs.found_steps.Given as goal

abbrev pub invariant-loop-pair : goal.invariant-loop-pair
invariant-loop-pair l = with_all_listed (map step_of l.found.keys) (pairs_of (drop l.pair-index l.steps)) ≡ with_all_listed [] (pairs_of l.steps)
