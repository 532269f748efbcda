use Rattle.std.proofs.Common.{◌≡◌, drop, map}
use Rattle.std.specs.List.{list_any}
use Rattle.bcj_symbolic_trees.specs.Units.{class_of}
use Rattle.bcj_symbolic_check.specs.Classes as spec
use Rattle.bcj_symbolic_check.proofs.members.has_class.Given as goal

abbrev pub invariant-loop-class : goal.invariant-loop-class
invariant-loop-class l = list_any (spec.is_class_named l.name) (map class_of (drop l.class-index l.classes)) ≡ list_any (spec.is_class_named l.name) (map class_of l.classes)
