use Rattle.std.proofs.Common.{◌≡◌}
use Rattle.bcj_symbolic_trees.specs.Types.{ty_of}
use Rattle.bcj_decl_rules.specs.World.{base_type, with_brackets}
use Rattle.bcj_typing_expression.proofs.arrays.array_of.Given as goal

abbrev pub invariant-loop-pair : goal.invariant-loop-pair
invariant-loop-pair l = ty_of l.ty ≡ with_brackets l._pair (base_type l.base)
