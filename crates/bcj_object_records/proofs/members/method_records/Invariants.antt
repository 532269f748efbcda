use Rattle.std.proofs.Common.{◌≡◌, ◌++◌, ◌∷◌, drop, map}
use Rattle.bcj_symbolic_trees.specs.Units.{method_of}
use Rattle.bcj_lower.specs.Views.{method_in}
use Rattle.bcj_object_rules.specs.Records as spec
use Rattle.bcj_object_records.proofs.members.method_records.Given as goal

abbrev pub invariant-loop-index : goal.invariant-loop-index
invariant-loop-index l =
    l.all ++ spec.method_records l.text (map spec.method_head (map method_of (drop l.index l.methods))) (map method_in (drop l.index l.rest))
    ≡ spec.method_records l.text (spec.init_head ∷ map spec.method_head (map method_of l.methods)) (map method_in l.codes)
