use Rattle.std.proofs.Common.{◌≡◌, ◌++◌, map, drop}
use Rattle.bcj_symbolic_trees.specs.Types.{types_of}
use Rattle.bcj_hier_rules.specs.Shapes.{type_of_text}
use Rattle.bcj_layout_rows.proofs.arrays.push_types.Given as goal

abbrev pub invariant-loop-entry : goal.invariant-loop-entry
invariant-loop-entry l = types_of l.types ++ map (λ e. type_of_text e.ty) (drop l.entry-index l.entries) ≡ types_of l.initial.types ++ map (λ e. type_of_text e.ty) l.entries
