use Rattle.std.proofs.Common.{◌≡◌, ◌++◌, drop, map}
use Rattle.bcj_symbolic_trees.specs.Units as symbolic
use Rattle.bcj_decl_rules.specs.World as spec
use Rattle.bcj_decl_table.specs.Views.{field_of_info}
use Rattle.bcj_decl_table.proofs.boot.boot_fields.Given as goal

abbrev pub invariant-loop-field : goal.invariant-loop-field
invariant-loop-field l =
    map field_of_info l.fields ++ map (spec.boot_field l.class.head.name) (map symbolic.field_of (drop l.field-index l.class.fields)) ≡ map (spec.boot_field l.class.head.name) (map symbolic.field_of l.class.fields)
