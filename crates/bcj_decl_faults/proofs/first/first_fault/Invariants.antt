use Rattle.std.proofs.Common.{◌≡◌, ◌++◌, map, take, length}
use Rattle.bcj_parser_trees.specs.Plain as tree
use Rattle.bcj_decl_rules.specs.World.{boot_types, source_types, declared_type, world_of}
use Rattle.bcj_decl_faults.proofs.Parting.{NoneBefore}
use Rattle.bcj_decl_faults.proofs.first.first_fault.Given as goal

abbrev pub invariant-loop-unit : goal.invariant-loop-unit
invariant-loop-unit l = record {
  file : l.file ≡ l.unit-index;
  start : length (boot_types ++ map declared_type (source_types (take l.unit-index (map tree.unit_of l.units)))) ≡ l.start;
  none : NoneBefore (world_of (map tree.unit_of l.units)) (map tree.unit_of l.units) l.unit-index;
}
