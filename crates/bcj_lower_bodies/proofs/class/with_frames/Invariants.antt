use Rattle.std.proofs.Common.{◌≡◌, ◌++◌, drop, map}
use Rattle.bcj_symbolic_trees.specs.Units.{class_of, method_of}
use Rattle.bcj_lower_rules.specs.Bodies.{bodies_of, method_bodies}
use Rattle.bcj_lower_bodies.specs.Views.{body_of}
use Rattle.bcj_lower_bodies.proofs.class.with_frames.Given as goal

abbrev pub invariant-loop-at : goal.invariant-loop-at
invariant-loop-at l = map body_of l.all.items ++ method_bodies (class_of l.class) (map method_of (drop l.at l.method-items)) ≡ bodies_of (class_of l.class)
