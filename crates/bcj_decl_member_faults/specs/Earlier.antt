-- The members before a member that may be the same.
use Rattle.std.specs.Prelude.{◌≡◌, ◌<◌, ℕ, zero, suc, Bool, true, false, List, Option, None, Some, cond, slice_get, length}
use Rattle.std.specs.Option.{option_map_or}
use Rattle.std.specs.Str.{bytes_eq}
use Rattle.bcj_parser_trees.specs.Trees.{PlainMember, field_member, method_member, constructor_member, static_member}
use Rattle.bcj_decl_rules.specs.World.{Named}
use Rattle.bcj_decl_rules.specs.Faults.{is_field_of, is_method_of, is_constructor_of}

-- the methods of a name
abbrev pub is_method_named : Named → PlainMember → Bool
is_method_named name (method_member at mods result other params throws body) = bytes_eq other name
is_method_named name _ = false

-- the constructors
abbrev pub is_constructor_member : PlainMember → Bool
is_constructor_member (constructor_member at mods name params throws first body) = true
is_constructor_member _ = false

-- a field of that name, a method of that name, a constructor
abbrev pub is_alike : PlainMember → PlainMember → Bool
is_alike (field_member at mods ty name init) = is_field_of name
is_alike (method_member at mods result name params throws body) = is_method_named name
is_alike (constructor_member at mods name params throws first body) = is_constructor_member
is_alike (static_member at body) = λ _. false

-- the same field, method or constructor again
abbrev pub is_again : PlainMember → PlainMember → Bool
is_again (field_member at mods ty name init) = is_field_of name
is_again (method_member at mods result name params throws body) = is_method_of name params
is_again (constructor_member at mods name params throws first body) = is_constructor_of params
is_again (static_member at body) = λ _. false

-- the member at a position passes the test; past the end none does
abbrev pub holds_at : (PlainMember → Bool) → List PlainMember → ℕ → Bool
holds_at test members k = option_map_or test (slice_get members k) false

-- the last member below a position that passes the test
abbrev pub last_below : (PlainMember → Bool) → List PlainMember → ℕ → Option ℕ
last_below test members zero = None
last_below test members (suc k) = cond (holds_at test members k) (Some k) (last_below test members k)

-- the test for members like the one at a position
abbrev pub alike_at : List PlainMember → ℕ → PlainMember → Bool
alike_at members k = option_map_or is_alike (slice_get members k) (λ _. false)

-- each member's last one before it that is like it
abbrev pub AreEarlier : List PlainMember → List (Option ℕ) → Type 0
AreEarlier members earlier = (k : ℕ) → k < length earlier → slice_get earlier k ≡ Some (last_below (alike_at members k) members k)
