use Rattle.std.proofs.Common.{◌≡◌, ◌++◌, map, drop}
use Rattle.bcj_symbolic_trees.specs.Units.{class_of}
use Rattle.bcj_symbolic_boot.specs.BootUnit.{thrown_class}
use Rattle.bcj_symbolic_boot.proofs.thrown.push_rows.Given as goal

abbrev pub invariant-loop-name : goal.invariant-loop-name
invariant-loop-name l =
    map class_of l.classes ++ map (λ r. thrown_class (r.0.now, r.1.now)) (drop l.name-index l.rows)
    ≡ map class_of l.fn.classes ++ map (λ r. thrown_class (r.0.now, r.1.now)) l.rows
