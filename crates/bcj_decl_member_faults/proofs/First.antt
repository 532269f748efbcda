-- What is refused of a member at a position.
use Rattle.std.proofs.Common.{◌≡◌, ◌<◌, ℕ, Bool, true, false, List, length, map, get_or, take, slice_get, None, Some, sym, ◌∙◌, ap, subst}
use Rattle.std.specs.Bool.{Decides}
use Rattle.std.specs.List.{list_any}
use Rattle.bcj_parser_trees.specs.Trees.{PlainMember, PlainType}
use Rattle.bcj_decl_rules.specs.World.{Named, World}
use Rattle.bcj_decl_rules.specs.Faults.{names_in, first_unknown}
use Rattle.bcj_decl_member_faults.specs.declared.member.MemberRefusal.TheVariants as refused
use Rattle.bcj_decl_member_faults.specs.Decisions.{IsBad, IsWrong}
use Rattle.bcj_decl_member_faults.specs.Earlier.{is_again}
use Rattle.bcj_decl_member_faults.specs.Refusal.{IsFirstRefusal}
use Rattle.bcj_decl_member_faults.proofs.Bad.{decides_again, decides_wrong}
use Rattle.bcj_decl_member_faults.proofs.Chain.{got_at}
use Rattle.bcj_decl_member_faults.proofs.Decided.{unknown_comes_first, bad_comes_first, none_is_at_fault}

-- what stands there is one member
member_is : (x y : PlainMember) → Some x ≡ Some y → x ≡ y
member_is x y e = cc

-- the member at a position is that of the tree there
same_member : {A : Type 0} (f : A → PlainMember) (xs : List A) (position : ℕ) (x : A) (m : PlainMember) → position < length xs → x ≡ get_or xs position x → slice_get (map f xs) position ≡ Some m → f x ≡ m
same_member f xs position x m h e is = member_is (f x) m (sym (got_at f xs position x h e) ∙ is)

-- a name is unknown
pub refuses_unknown : {A : Type 0} (f : A → PlainMember) (xs : List A) (position : ℕ) (x : A) (w : World) (t : PlainType) (name copied : Named) → position < length xs → x ≡ get_or xs position x
    → Some name ≡ first_unknown w (names_in (f x)) → copied ≡ name → (m : PlainMember) → slice_get (map f xs) position ≡ Some m → IsFirstRefusal w t (take position (map f xs)) m (Some (refused.Unknown copied))
refuses_unknown f xs position x w t name copied h e found same m is =
    let P : PlainMember → Type 0 = λ n. first_unknown w (names_in n) ≡ Some copied in
    unknown_comes_first w t (take position (map f xs)) m copied (subst P (same_member f xs position x m h e is) (sym found ∙ ap Some (sym same)))

-- each name is known, and the member is bad
pub refuses_bad : {A : Type 0} (f : A → PlainMember) (xs : List A) (position : ℕ) (x : A) (w : World) (t : PlainType) (b : Bool) → position < length xs → x ≡ get_or xs position x
    → None ≡ first_unknown w (names_in (f x)) → ((m : PlainMember) → slice_get (map f xs) position ≡ Some m → Decides b (IsBad w t (take position (map f xs)) m)) → b ≡ true
    → (m : PlainMember) → slice_get (map f xs) position ≡ Some m → IsFirstRefusal w t (take position (map f xs)) m (Some refused.BadMember)
refuses_bad f xs position x w t b h e found bad it m is =
    let P : PlainMember → Type 0 = λ n. first_unknown w (names_in n) ≡ None in
    bad_comes_first w t (take position (map f xs)) m (subst P (same_member f xs position x m h e is) (sym found)) ((bad m is).0 it)

-- a test that fails
not_bad : {P : Type 0} (b : Bool) → Decides b P → b ≡ false → P → ⊥
not_bad b d no_it p = let it : b ≡ true = d.1 p in cc

-- each name is known, and the member isn't bad
pub refuses_none : {A : Type 0} (f : A → PlainMember) (xs : List A) (position : ℕ) (x : A) (w : World) (t : PlainType) (b : Bool) → position < length xs → x ≡ get_or xs position x
    → None ≡ first_unknown w (names_in (f x)) → ((m : PlainMember) → slice_get (map f xs) position ≡ Some m → Decides b (IsBad w t (take position (map f xs)) m)) → b ≡ false
    → (m : PlainMember) → slice_get (map f xs) position ≡ Some m → IsFirstRefusal w t (take position (map f xs)) m None
refuses_none f xs position x w t b h e found bad it m is =
    let P : PlainMember → Type 0 = λ n. first_unknown w (names_in n) ≡ None in
    none_is_at_fault w t (take position (map f xs)) m (subst P (same_member f xs position x m h e is) (sym found)) (not_bad b (bad m is) it)

-- bad by what stands before it, or in itself
pub bad_before : {A : Type 0} (f : A → PlainMember) (xs : List A) (position : ℕ) (w : World) (t : PlainType) (a : Bool)
    → ((m : PlainMember) → slice_get (map f xs) position ≡ Some m → a ≡ list_any (is_again m) (take position (map f xs))) → a ≡ true
    → (m : PlainMember) → slice_get (map f xs) position ≡ Some m → Decides true (IsBad w t (take position (map f xs)) m)
bad_before f xs position w t a found it m is = decides_again w t (take position (map f xs)) m a (found m is) it

-- not before, but in itself
pub bad_in_itself : {A : Type 0} (f : A → PlainMember) (xs : List A) (position : ℕ) (x : A) (w : World) (t : PlainType) (a b : Bool) → position < length xs → x ≡ get_or xs position x
    → ((m : PlainMember) → slice_get (map f xs) position ≡ Some m → a ≡ list_any (is_again m) (take position (map f xs))) → a ≡ false → Decides b (IsWrong w t (f x))
    → (m : PlainMember) → slice_get (map f xs) position ≡ Some m → Decides b (IsBad w t (take position (map f xs)) m)
bad_in_itself f xs position x w t a b h e found it wrong m is =
    let P : PlainMember → Type 0 = λ n. Decides b (IsWrong w t n) in
    decides_wrong w t (take position (map f xs)) m a b (found m is) it (subst P (same_member f xs position x m h e is) wrong)
