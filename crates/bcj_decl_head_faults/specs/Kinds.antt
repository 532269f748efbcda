-- The tests of a head, as truths that compute.
use Rattle.std.specs.Prelude.{ℕ, Bool, true, false, not, nat_lt, ◌&&◌, ◌||◌, Option, None, Some}
use Rattle.std.specs.List.{list_any}
use Rattle.std.specs.Option.{option_map_or}
use Rattle.bcj_parser_trees.specs.Trees.{PlainType}
use Rattle.bcj_decl_rules.specs.World.{Named, World, type_named, interfaces_of}
use Rattle.bcj_decl_rules.specs.Faults.{same_truth}

-- whether there is a place, and before this one
abbrev pub is_below : ℕ → Option ℕ → Bool
is_below place None = false
is_below place (Some k) = nat_lt k place

-- whether a name is that of an interface, or of a class
abbrev pub is_of_kind : World → Bool → Named → Bool
is_of_kind w interface name = option_map_or (λ t. same_truth t.interface interface) (type_named w name) false

-- an interface where a class is wanted, or a class where an interface is
abbrev pub names_wrong_kind : World → PlainType → Bool
names_wrong_kind w t = (not t.interface && list_any (is_of_kind w true) t.extends) || list_any (is_of_kind w false) (interfaces_of t)
