-- What passes to a type, by the places from which it passes.
use Rattle.std.specs.Prelude.{◌≡◌, ℕ, Bool, false, not, ◌&&◌, List, slice_get, length}
use Rattle.std.specs.List.{list_any}
use Rattle.std.specs.Option.{option_map_or}
use Rattle.bcj_parser_trees.specs.Trees.{PlainType}
use Rattle.bcj_decl_rules.specs.World.{Method, World, declared_type}
use Rattle.bcj_decl_rules.specs.Members.{same_signature, declares_method, is_constructor}
use Rattle.bcj_decl_listing.specs.Places.{steps_from}
use Rattle.bcj_decl_member_faults.specs.Decisions.{is_at_odds}
use Rattle.bcj_decl_member_faults.specs.Earlier.{AreEarlier}
use Rattle.bcj_decl_member_faults.specs.declared.names.MemberNames.{MemberNames}

-- the type at a place declares a method of that name and these parameters
abbrev pub declares_at : World → Method → ℕ → Bool
declares_at w d k = option_map_or (declares_method d) (slice_get w k) false

-- a method of that name and these parameters that passes on and is at odds
unfoldable pub is_clash : Method → Method → Bool
is_clash d n = same_signature d n && ((not n.is_private && not (is_constructor n)) && is_at_odds d n)

-- the type at a place declares a method that clashes
abbrev pub clashes_at : World → Method → ℕ → Bool
clashes_at w d k = option_map_or (λ u. list_any (is_clash d) u.methods) (slice_get w k) false

-- the method at a position passes the test
abbrev pub method_at : (Method → Bool) → List Method → ℕ → Bool
method_at test ms k = option_map_or test (slice_get ms k) false

-- what is kept of a type is that of the type
abbrev pub AreNamesOf : World → PlainType → MemberNames → Type 0
AreNamesOf w t n = AreEarlier t.members n.earlier.items × (length n.earlier.items ≡ length t.members) × (n.above ≡ steps_from w (declared_type t))
