use Rattle.std.proofs.Common.{◌≡◌, ◌++◌, drop, map}
use Rattle.bcj_symbolic_trees.specs.Units.{class_of}
use Rattle.bcj_object_rules.specs.Objects as spec
use Rattle.bcj_object.specs.function.Views.{placed_in}
use Rattle.bcj_object.proofs.placing.placed.Given as goal

abbrev pub invariant-loop-class : goal.invariant-loop-class
invariant-loop-class l =
    map placed_in l.all.items ++ spec.placed l.next.number l.next.text l.next.tab (map class_of (drop l.class-index l.classes)) ≡ spec.placed 0 0 0 (map class_of l.classes)
