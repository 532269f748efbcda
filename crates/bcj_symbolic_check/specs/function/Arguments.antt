-- A walk over parameters, of which the first is dropped with each argument, also where none is left.
use Rattle.std.specs.Prelude.{Bool, false, List, [], ◌∷◌}
use Rattle.bcj_symbolic_trees.specs.Types.{PlainTy}
use Rattle.bcj_symbolic_trees.specs.Units.{PlainPair}
use Rattle.bcj_symbolic_check.specs.Judgements.{Known, a_type, part_steps}

-- a part steps to the first of these types
unfoldable pub steps_to_first : List PlainPair → List PlainTy → Known → Bool
steps_to_first pairs [] k = false
steps_to_first pairs (t ∷ ts) k = part_steps pairs k (a_type t)

unfoldable pub behind_first : List PlainTy → List PlainTy
behind_first [] = []
behind_first (t ∷ ts) = ts
