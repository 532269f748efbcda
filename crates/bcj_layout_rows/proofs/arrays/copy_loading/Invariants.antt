use Rattle.std.proofs.Common.{◌≡◌, ◌++◌, map, drop, filter}
use Rattle.bcj_symbolic_trees.specs.Types.{types_of}
use Rattle.bcj_layout_rules.specs.Rows.{element_loads}
use Rattle.bcj_layout_rows.specs.Keys.{type_in}
use Rattle.bcj_layout_rows.proofs.arrays.copy_loading.Given as goal

abbrev pub invariant-loop-key : goal.invariant-loop-key
invariant-loop-key l = types_of l.types ++ filter (element_loads l.resolver) (map type_in (drop l.key-index l.keys)) ≡ filter (element_loads l.resolver) (map type_in l.keys)
