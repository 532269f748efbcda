-- The superinterfaces of each type as places.
use Rattle.std.specs.Prelude.{◌≡◌, ◌<◌, ℕ, List, [], length, nat_eq, Some, slice_get, slice_index_or}
use Rattle.std.specs.List.{All, IsDistinct}
use Rattle.bcj_decl_rules.specs.World.{Declared, World}
use Rattle.bcj_decl_rules.specs.function.Above.{HasSameFirsts, interfaces_over}
use Rattle.bcj_decl_listing.specs.Places.{types_at}

-- the places of the interfaces above a type, in the order of a search and each once
pub record IsOrder (w : World) (t : Declared) (places : List ℕ) : Type 0 where
  pub firsts : HasSameFirsts (types_at w places) (interfaces_over w t)
  pub once : IsDistinct nat_eq places
  pub below : All (λ k. k < length w) places

-- the list at a place; an empty one past the end
abbrev pub list_at : List (List ℕ) → ℕ → List ℕ
list_at lists k = slice_index_or lists k []

-- for the type at each place its order
pub record AreOrders (w : World) (lists : List (List ℕ)) : Type 0 where
  pub as_many : length lists ≡ length w
  pub each : (k : ℕ) (t : Declared) → slice_get w k ≡ Some t → IsOrder w t (list_at lists k)
