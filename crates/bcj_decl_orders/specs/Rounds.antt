-- What rounds over the types keep: lists, of which those that are done are right.
use Rattle.std.specs.Prelude.{◌≡◌, ◌<◌, ℕ, Bool, true, false, List, [], ◌∷◌, Some, fold, nat_eq, slice_get, slice_index_or}
use Rattle.std.specs.List.{list_all}
use Rattle.std.specs.Option.{option_map_or}
use Rattle.indexmap.specs.IndexSet.{insert_all}
use Rattle.bcj_decl_rules.specs.World.{Named, Declared, World}
use Rattle.bcj_decl_listing.specs.Places.{place_of}
use Rattle.bcj_decl_orders.specs.Orders.{IsOrder, list_at}

-- past the end nothing is done
abbrev pub done_at : List Bool → ℕ → Bool
done_at done k = slice_index_or done k false

-- a name of no type is done
abbrev pub is_done : World → List Bool → Named → Bool
is_done w done name = option_map_or (done_at done) (place_of w name) true

abbrev pub are_done : World → List Bool → List Named → Bool
are_done w done names = list_all (is_done w done) names

-- the place of a name and the list there
abbrev pub places_over : World → List (List ℕ) → Named → List ℕ
places_over w lists name = option_map_or (λ k. k ∷ list_at lists k) (place_of w name) []

-- those of names put behind the places found, each once
abbrev pub gathered : World → List (List ℕ) → List ℕ → List Named → List ℕ
gathered w lists found names = fold (λ ks name. insert_all nat_eq ks (places_over w lists name)) found names

-- the lists that are done are right
abbrev pub AreRight : World → List (List ℕ) → List Bool → Type 0
AreRight w lists done = (k : ℕ) (t : Declared) → slice_get w k ≡ Some t → done_at done k ≡ true → IsOrder w t (list_at lists k)

-- what was done is done
abbrev pub StayDone : List Bool → List Bool → Type 0
StayDone old new = (k : ℕ) → done_at old k ≡ true → done_at new k ≡ true

-- the type at a place is done where its superinterfaces were
abbrev pub IsMade : World → List Bool → List Bool → ℕ → Type 0
IsMade w old new k = (t : Declared) → slice_get w k ≡ Some t → are_done w old t.interfaces ≡ true → done_at new k ≡ true

-- after a round, which made the types below a place
pub record IsInRound (w : World) (old : List Bool) (lists : List (List ℕ)) (done : List Bool) (n : ℕ) : Type 0 where
  pub right : AreRight w lists done
  pub stay : StayDone old done
  pub made : (k : ℕ) → k < n → IsMade w old done k
