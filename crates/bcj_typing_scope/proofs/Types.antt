-- The types of typed arguments.
use Rattle.std.proofs.Common.{◌≡◌, List, [], ◌∷◌, map, refl, ap}
use Rattle.bcj_symbolic_trees.specs.Types.{arg_of, args_of}
use Rattle.bcj_typing_rules.specs.Expressions.{types_in}
use Rattle.bcj_typing_node.specs.declared.typing.Typing.{Typing}
use Rattle.bcj_typing_node.specs.Typings.{typings_of}

-- they are the same in plain form
pub types_plain : (ts : List Typing) → args_of (map (λ t. t.ty) ts) ≡ types_in (typings_of ts)
types_plain [] = refl
types_plain (t ∷ ts) = ap (λ l. arg_of t.ty ∷ l) (types_plain ts)
