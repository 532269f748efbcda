-- Types by their numbers in a list of heads, and the parts on which a type's loading waits: its superclass and its superinterfaces.
use Rattle.std.specs.Prelude.{ℕ, Bool, true, false, List, [], ◌∷◌, ◌++◌, map, slice_get, position, Option, None, Some}
use Rattle.std.specs.Option.{option_map_or, option_to_list}
use Rattle.std.specs.Str.{bytes_eq}
use Rattle.bcj_symbolic_trees.specs.declared.class_tree.ClassHead.{ClassHead}
use Rattle.bcj_hier_rules.specs.Shapes.{Named}
use Rattle.bcj_hier.specs.declared.parts.Part.{Part}

abbrev pub names_of : List ClassHead → List Named
names_of heads = map (λ h. h.name) heads

-- the number of the first with this name
abbrev pub numbered : List Named → Named → Option ℕ
numbered names name = position (bytes_eq name) names

abbrev pub part_of : List Named → Bool → Named → Part
part_of names interface name = record { place = numbered names name; interface = interface }

-- the superclass, and behind it the superinterfaces
abbrev pub parts_of : List Named → ClassHead → List Part
parts_of names h = map (part_of names false) (option_to_list h.superclass) ++ map (part_of names true) h.interfaces

-- the number of the superclass, where there is one that is found
abbrev pub superclass_place : List Part → Option ℕ
superclass_place [] = None
superclass_place (p ∷ ps) = elim p.interface [ true ↦ None | false ↦ p.place ]

abbrev pub interface_at : List ClassHead → ℕ → Bool
interface_at heads k = option_map_or (λ h. h.interface) (slice_get heads k) false

abbrev pub name_at : List ClassHead → ℕ → Named
name_at heads k = option_map_or (λ h. h.name) (slice_get heads k) []

abbrev pub all_parts : List ClassHead → List (List Part)
all_parts heads = map (parts_of (names_of heads)) heads

abbrev pub parts_at : List (List Part) → ℕ → List Part
parts_at parts k = elim (slice_get parts k) [ None ↦ [] | Some ps ↦ ps ]
