use Rattle.std.proofs.Common.{◌≡◌, map, drop, []}
use Rattle.std.specs.List.{fold}
use Rattle.bcj_symbolic_trees.specs.Types.{types_of}
use Rattle.bcj_layout_rules.specs.Rows.{with_arrays}
use Rattle.bcj_layout_rows.specs.Keys.{type_in}
use Rattle.bcj_layout_rows.proofs.arrays.found_arrays.Given as goal

abbrev pub invariant-loop-ty : goal.invariant-loop-ty
invariant-loop-ty l = fold with_arrays (map type_in l.found.keys) (types_of (drop l.ty-index l.types)) ≡ fold with_arrays [] (types_of l.types)
