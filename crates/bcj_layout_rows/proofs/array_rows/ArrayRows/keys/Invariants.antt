use Rattle.std.proofs.Common.{◌≡◌, map, drop, []}
use Rattle.std.specs.List.{fold}
use Rattle.bcj_symbolic_trees.specs.Types.{types_of}
use Rattle.bcj_layout_rules.specs.Rows.{with_type}
use Rattle.bcj_layout_rows.specs.Keys.{type_in}
use Rattle.bcj_layout_rows.proofs.array_rows.ArrayRows.keys.Given as goal

abbrev pub invariant-loop-ty : goal.invariant-loop-ty
invariant-loop-ty l = fold with_type (map type_in l.found.keys) (types_of (drop l.ty-index l.types)) ≡ fold with_type [] (types_of l.types)
