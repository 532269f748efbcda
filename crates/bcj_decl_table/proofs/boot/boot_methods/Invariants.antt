use Rattle.std.proofs.Common.{◌≡◌, ◌++◌, drop, map}
use Rattle.bcj_symbolic_trees.specs.Units as symbolic
use Rattle.bcj_decl_rules.specs.World as spec
use Rattle.bcj_decl_table.specs.Views.{method_of_info}
use Rattle.bcj_decl_table.proofs.boot.boot_methods.Given as goal

abbrev pub invariant-loop-method : goal.invariant-loop-method
invariant-loop-method l =
    map method_of_info l.methods ++ map (spec.boot_method l.class.head.name) (map symbolic.method_of (drop l.method-index l.class.methods)) ≡ spec.boot_methods (symbolic.class_of l.class)
