use Rattle.std.proofs.Common.{◌≡◌, ◌++◌, drop, map}
use Rattle.bcj_symbolic_trees.specs.Units as symbolic
use Rattle.bcj_decl_rules.specs.World as spec
use Rattle.bcj_decl_table.specs.Views.{declared_of}
use Rattle.bcj_decl_table.proofs.boot.push_types.Given as goal

abbrev pub invariant-loop-class : goal.invariant-loop-class
invariant-loop-class l =
    map declared_of l.types ++ map spec.boot_type (map symbolic.class_of (drop l.class-index l.classes)) ≡ map declared_of l.fn.types ++ map spec.boot_type (map symbolic.class_of l.classes)
