-- What the search for a field goes over, by places.
use Rattle.std.specs.Prelude.{ℕ, zero, suc, Bool, false, not, cond, List, [], ◌∷◌, length, Option, None, Some, slice_get}
use Rattle.std.specs.Option.{option_and_then, option_map, option_map_or, option_or, is_some}
use Rattle.bcj_decl_rules.specs.World.{Named, Field, World}
use Rattle.bcj_decl_listing.specs.Places.{field_position}
use Rattle.bcj_decl_orders.specs.Orders.{list_at}
use Rattle.bcj_decl_fields.specs.declared.lookup.FieldId.{FieldId}
use Rattle.bcj_decl_fields.specs.Searches.{superclass_place, places_up}

-- the field at a position of the type at a place
abbrev pub field_at : World → FieldId → Option Field
field_at w id = option_and_then (λ t. slice_get t.fields id.at) (slice_get w id.class)

-- where the first field of a name stands in the type at a place
abbrev pub field_in : World → Named → ℕ → Option FieldId
field_in w name k = option_map (λ i. record { class = k; at = i }) (field_position w k name)

-- the same of the first of these types to declare one
abbrev pub first_in : World → Named → List ℕ → Option FieldId
first_in w name [] = None
first_in w name (k ∷ ks) = option_or (field_in w name k) (first_in w name ks)

abbrev pub first_up : World → Named → ℕ → Option ℕ → Option FieldId
first_up w name n place = first_in w name (places_up n w place)

-- over the classes from a place up, as far as none declares the name
abbrev pub first_over : World → List (List ℕ) → Named → ℕ → Option ℕ → Option FieldId
first_over w orders name zero place = None
first_over w orders name (suc n) None = None
first_over w orders name (suc n) (Some k) =
    cond (is_some (field_position w k name)) None (option_or (first_in w name (list_at orders k)) (first_over w orders name n (superclass_place w k)))

abbrev pub is_open_at : World → FieldId → Bool
is_open_at w id = option_map_or (λ f. not f.is_private) (field_at w id) false

abbrev pub in_superclass : World → Named → ℕ → Option FieldId
in_superclass w name k = option_and_then (λ id. cond (is_open_at w id) (Some id) None) (first_up w name (length w) (superclass_place w k))

abbrev pub in_interface : World → List (List ℕ) → Named → ℕ → Option FieldId
in_interface w orders name k = option_or (first_in w name (list_at orders k)) (first_over w orders name (length w) (superclass_place w k))

-- from the type at a place
abbrev pub field_from : World → List (List ℕ) → Named → ℕ → Option FieldId
field_from w orders name k = option_or (field_in w name k) (option_or (in_superclass w name k) (in_interface w orders name k))
