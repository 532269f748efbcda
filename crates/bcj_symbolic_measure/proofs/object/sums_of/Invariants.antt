use Rattle.std.proofs.Common.{◌≡◌, drop, map}
use Rattle.bcj_symbolic_trees.specs.Units.{class_of}
use Rattle.bcj_symbolic_measure.specs.function.Sums.{no_sums, with_classes}
use Rattle.bcj_symbolic_measure.proofs.object.sums_of.Given as goal

abbrev pub invariant-loop-class : goal.invariant-loop-class
invariant-loop-class l = with_classes l.sums (map class_of (drop l.class-index l.classes)) ≡ with_classes no_sums (map class_of l.classes)
