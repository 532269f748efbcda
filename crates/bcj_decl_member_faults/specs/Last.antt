-- Where the last members of each kind and name stand.
use Rattle.std.specs.Prelude.{◌≡◌, ℕ, List, Option, None, Some, cond}
use Rattle.std.specs.HashMap.{get_by_text}
use Rattle.bcj_parser_trees.specs.Trees.{PlainMember, field_member, method_member, constructor_member, static_member}
use Rattle.bcj_decl_rules.specs.World.{Named}
use Rattle.bcj_decl_rules.specs.Faults.{is_field_of}
use Rattle.bcj_decl_member_faults.specs.declared.earlier.Last.{Last}
use Rattle.bcj_decl_member_faults.specs.Earlier.{is_method_named, is_constructor_member, last_below}

-- the last member like this one
abbrev pub last_of : Last → PlainMember → Option ℕ
last_of l (field_member at mods ty name init) = get_by_text l.fields name
last_of l (method_member at mods result name params throws body) = get_by_text l.methods name
last_of l (constructor_member at mods name params throws first body) = l.constructor
last_of l (static_member at body) = None

-- one member more is taken in
abbrev pub TakesIn : Last → Last → PlainMember → ℕ → Type 0
TakesIn old new m position =
    ((q : Named) → get_by_text new.fields q ≡ cond (is_field_of q m) (Some position) (get_by_text old.fields q))
    × ((q : Named) → get_by_text new.methods q ≡ cond (is_method_named q m) (Some position) (get_by_text old.methods q))
    × (new.constructor ≡ cond (is_constructor_member m) (Some position) old.constructor)

-- what stands below a position is taken in
abbrev pub AreLast : List PlainMember → ℕ → Last → Type 0
AreLast members k l =
    ((q : Named) → get_by_text l.fields q ≡ last_below (is_field_of q) members k)
    × ((q : Named) → get_by_text l.methods q ≡ last_below (is_method_named q) members k)
    × (l.constructor ≡ last_below is_constructor_member members k)
