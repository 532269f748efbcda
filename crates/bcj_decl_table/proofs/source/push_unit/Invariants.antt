use Rattle.std.proofs.Common.{◌≡◌, ◌++◌, drop, map}
use Rattle.bcj_parser_trees.specs.Plain as tree
use Rattle.bcj_decl_rules.specs.World as spec
use Rattle.bcj_decl_table.specs.Views.{declared_of}
use Rattle.bcj_decl_table.proofs.source.push_unit.Given as goal

abbrev pub invariant-loop-decl : goal.invariant-loop-decl
invariant-loop-decl l =
    map declared_of l.types ++ map spec.declared_type (map tree.type_of (drop l.decl-index l.unit.types)) ≡ map declared_of l.fn.types ++ map spec.declared_type (tree.unit_of l.unit)
