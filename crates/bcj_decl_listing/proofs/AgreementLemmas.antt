-- Indices that are those of the types have the members at each place.
use Rattle.std.proofs.Common.{◌≡◌, ◌+◌, ◌<◌, ◌++◌, List, [], ◌∷◌, map, take, ℕ, suc, zero, sym, subst, refl, slice_get}
use Rattle.std.proofs.Math.ListN.{length, get_or}
use Rattle.std.proofs.lemmas.List.{map_more}
use Rattle.std.specs.Option.{option_and_then, option_map_or}
use Rattle.std.specs.HashMap.{get_by_text}
use Rattle.bcj_decl_rules.specs.World.{Named, Declared, World}
use Rattle.bcj_decl_listing.specs.declared.members.MemberIndex.{MemberIndex}
use Rattle.bcj_decl_listing.specs.Places.{field_position, method_positions}
use Rattle.bcj_decl_listing.specs.Agreement.{HasFields, HasMethods, AreMembersOf, listed}

-- one type more
pub members_more : (ms : List MemberIndex) (w : World) (m : MemberIndex) (t : Declared) → AreMembersOf ms w → HasFields m t.fields → HasMethods m t.methods → AreMembersOf (ms ++ m ∷ []) (w ++ t ∷ [])
members_more [] [] m t before fields methods = (fields, methods, tt)
members_more [] (u ∷ us) m t before fields methods = absurd before
members_more (n ∷ ns) [] m t before fields methods = absurd before
members_more (n ∷ ns) (u ∷ us) m t before fields methods = (before.0, before.1, members_more ns us m t before.2 fields methods)

-- one type more of a list
pub members_next : {A : Type 0} (f : A → Declared) (xs : List A) (i : ℕ) (d : A) (ms : List MemberIndex) (m : MemberIndex) → i < length xs → AreMembersOf ms (map f (take i xs))
    → HasFields m (f (get_or xs i d)).fields → HasMethods m (f (get_or xs i d)).methods → AreMembersOf (ms ++ m ∷ []) (map f (take (i + 1) xs))
members_next f xs i d ms m h before fields methods =
    let P : World → Type 0 = λ w. AreMembersOf (ms ++ m ∷ []) w in
    subst P (sym (map_more f xs i d h)) (members_more ms (map f (take i xs)) m (f (get_or xs i d)) before fields methods)

pub fields_at_place : (ms : List MemberIndex) (w : World) → AreMembersOf ms w → (k : ℕ) (q : Named) → option_and_then (λ m. get_by_text m.fields q) (slice_get ms k) ≡ field_position w k q
fields_at_place [] [] are k q = refl
fields_at_place [] (t ∷ ts) are k q = absurd are
fields_at_place (m ∷ ms) [] are k q = absurd are
fields_at_place (m ∷ ms) (t ∷ ts) are zero q = are.0 q
fields_at_place (m ∷ ms) (t ∷ ts) are (suc k) q = fields_at_place ms ts are.2 k q

pub methods_at_place : (ms : List MemberIndex) (w : World) → AreMembersOf ms w → (k : ℕ) (q : Named) → option_map_or (λ m. listed m q) (slice_get ms k) [] ≡ method_positions w k q
methods_at_place [] [] are k q = refl
methods_at_place [] (t ∷ ts) are k q = absurd are
methods_at_place (m ∷ ms) [] are k q = absurd are
methods_at_place (m ∷ ms) (t ∷ ts) are zero q = are.1 q
methods_at_place (m ∷ ms) (t ∷ ts) are (suc k) q = methods_at_place ms ts are.2 k q
