-- Where the types of a world stand, and their members.
use Rattle.std.specs.Prelude.{ℕ, ◌+◌, List, [], ◌∷◌, map, Option, cond, slice_get}
use Rattle.std.specs.List.{position_from, filter_map}
use Rattle.std.specs.Option.{option_and_then, option_map_or}
use Rattle.std.specs.Str.{bytes_eq}
use Rattle.bcj_decl_rules.specs.World.{Named, Method, Declared, World, is_named}
use Rattle.bcj_decl_rules.specs.Subtypes.{direct_supertypes}
use Rattle.bcj_decl_rules.specs.Members.{field_named}

-- counted from a number
abbrev pub place_from : ℕ → World → Named → Option ℕ
place_from i w name = position_from (is_named name) i w

-- the first type of the name
abbrev pub place_of : World → Named → Option ℕ
place_of w name = place_from 0 w name

-- the places of the types that names mean; a name of no type has none
abbrev pub places_of : World → List Named → List ℕ
places_of w names = filter_map (place_of w) names

-- the types at places
abbrev pub types_at : World → List ℕ → List Declared
types_at w places = filter_map (slice_get w) places

-- the places to which a type steps (JLS 4.10.2)
abbrev pub steps_from : World → Declared → List ℕ
steps_from w t = places_of w (direct_supertypes t)

-- those of each type in its place
abbrev pub steps_of_world : World → List (List ℕ)
steps_of_world w = map (steps_from w) w

-- the position of the first field of a name in the type at a place
abbrev pub field_position : World → ℕ → Named → Option ℕ
field_position w place name = option_and_then (λ t. position_from (field_named name) 0 t.fields) (slice_get w place)

-- the positions of the methods of a name, counted from a number
abbrev pub positions_from : ℕ → Named → List Method → List ℕ
positions_from i name [] = []
positions_from i name (m ∷ ms) = cond (bytes_eq m.name name) (i ∷ positions_from (i + 1) name ms) (positions_from (i + 1) name ms)

-- the positions of the methods of a name in the type at a place, in their order; none past the end
abbrev pub method_positions : World → ℕ → Named → List ℕ
method_positions w place name = option_map_or (λ t. positions_from 0 name t.methods) (slice_get w place) []
