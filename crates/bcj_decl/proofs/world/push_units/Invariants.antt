use Rattle.std.proofs.Common.{◌≡◌, ◌++◌, drop, map}
use Rattle.bcj_parser_trees.specs.Plain as tree
use Rattle.bcj_decl_rules.specs.World as spec
use Rattle.bcj_decl_table.specs.Views.{declared_of}
use Rattle.bcj_decl.proofs.Types.{all_of}
use Rattle.bcj_decl.proofs.world.push_units.Given as goal

abbrev pub invariant-loop-unit : goal.invariant-loop-unit
invariant-loop-unit l =
    map declared_of l.types ++ all_of spec.declared_type tree.unit_of (drop l.unit-index l.units) ≡ map declared_of l.fn.types ++ all_of spec.declared_type tree.unit_of l.units
