use Rattle.std.proofs.Common.{◌≡◌, ◌≤◌, [], take, drop, map}
use Rattle.bcj_symbolic_trees.specs.Units.{class_of}
use Rattle.bcj_symbolic_check.specs.Limits.{max_types}
use Rattle.bcj_symbolic_check.specs.Classes as spec
use Rattle.bcj_symbolic_check.proofs.check.Given as goal

abbrev pub invariant-loop-number : goal.invariant-loop-number
invariant-loop-number l = (l.number ≤ max_types) × (spec.faults_from l.number (map class_of (take l.number l.classes)) (map class_of (drop l.number l.classes)) ≡ spec.faults_from 0 [] (map class_of l.classes))
