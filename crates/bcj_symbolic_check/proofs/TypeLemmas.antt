-- Types: their dimensions, counted in a word, and those of locals.
use Rattle.std.proofs.Common.{◌≡◌, refl, ap, ◌∙◌, ℕ, ◌-◌, ◌^◌, min, nat_le, List, Option, option_map, Some, None, slice_get, arith}
use Rattle.std.proofs.lemmas.Grind.{common_steps}
use Rattle.std.proofs.lemmas.Option.{slice_get-map}
use Rattle.bcj_symbolic_trees.specs.declared.type_tree.Ty.{Ty}
use Rattle.bcj_symbolic_check.specs.Limits.{max_dimensions}
use Rattle.bcj_symbolic_trees.specs.Types.{given, ty_of, types_of}

pub few_dimensions : (n : ℕ) → nat_le (min n (2 ^ 32 - 1)) max_dimensions ≡ nat_le n max_dimensions
few_dimensions n = grind (arith, common_steps)

given_all : (t : Option Ty) → option_map given (option_map ty_of t) ≡ option_map (λ t. given (ty_of t)) t
given_all None = refl
given_all (Some t) = refl

pub local_at : (ts : List Ty) (i : ℕ) → option_map given (slice_get (types_of ts) i) ≡ option_map (λ t. given (ty_of t)) (slice_get ts i)
local_at ts i = ap (option_map given) (slice_get-map ty_of ts i) ∙ given_all (slice_get ts i)
