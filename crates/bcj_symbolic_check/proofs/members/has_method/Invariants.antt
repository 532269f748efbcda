use Rattle.std.proofs.Common.{◌≡◌, drop, map}
use Rattle.std.specs.List.{list_any}
use Rattle.bcj_symbolic_trees.specs.Units.{method_of}
use Rattle.bcj_symbolic_check.specs.Classes as spec
use Rattle.bcj_symbolic_check.proofs.members.has_method.Given as goal

abbrev pub invariant-loop-other : goal.invariant-loop-other
invariant-loop-other l = list_any (spec.same_method (method_of l.method)) (map method_of (drop l.other-index l.others)) ≡ list_any (spec.same_method (method_of l.method)) (map method_of l.others)
