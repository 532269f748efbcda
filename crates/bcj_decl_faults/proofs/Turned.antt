-- What one refusal of a head or a member says of its spots.
use Rattle.std.proofs.Common.{◌≡◌, ◌≤◌, ℕ, List, Option, None, Some, take, slice_get, refl, sym, ap, subst, ◌∙◌, inr}
use Rattle.bcj_parser_trees.specs.Trees.{PlainMember, PlainType}
use Rattle.bcj_decl_rules.specs.World.{World}
use Rattle.bcj_decl_rules.specs.Faults.{Refusal, HeadFault, MemberFault, member_at, rank}
use Rattle.bcj_decl_head_faults.specs.Refusals as head
use Rattle.bcj_decl_faults.specs.Spots.{Spot, IsLeast}
use Rattle.bcj_decl_faults.specs.Parts.{HeadSpot, MemberSpot}

pub no_head : (w : World) (before : List PlainType) (t : PlainType) → head.IsFirstRefusal (HeadFault w before t) None → IsLeast (HeadSpot w before t) None
no_head w before t none = λ x h. none x.refusal h.fault

pub least_head : (w : World) (before : List PlainType) (t : PlainType) (r s : Refusal) → r ≡ s → head.IsFirstRefusal (HeadFault w before t) (Some s) → IsLeast (HeadSpot w before t) (Some (record { at = t.at; refusal = r }))
least_head w before t r s e first =
    let P : Refusal → Type 0 = λ q. IsLeast (HeadSpot w before t) (Some (record { at = t.at; refusal = q })) in
    subst P (sym e) (record { place = refl; fault = first.0 }, λ x h. inr (sym h.place, first.1 x.refusal h.fault))

-- ---- a member at a position

-- no fault, or one of least rank
abbrev pub IsFirstOfMember : World → PlainType → List PlainMember → PlainMember → Option Refusal → Type 0
IsFirstOfMember w t before m None = (s : Refusal) → MemberFault w t before m s → ⊥
IsFirstOfMember w t before m (Some r) = MemberFault w t before m r × ((s : Refusal) → MemberFault w t before m s → rank r ≤ rank s)

same_member : (t : PlainType) (k : ℕ) (m n : PlainMember) → slice_get t.members k ≡ Some m → slice_get t.members k ≡ Some n → m ≡ n
same_member t k m n e f = let both : Some m ≡ Some n = sym e ∙ f in cc

pub no_member : (w : World) (t : PlainType) (k : ℕ) (m : PlainMember) → slice_get t.members k ≡ Some m → IsFirstOfMember w t (take k t.members) m None → IsLeast (MemberSpot w t k) None
no_member w t k m e none = λ x h.
    let P : PlainMember → Type 0 = λ n. MemberFault w t (take k t.members) n x.refusal in none x.refusal (subst P (same_member t k h.member m h.stands e) h.fault)

pub least_member : (w : World) (t : PlainType) (k : ℕ) (m : PlainMember) (at : ℕ) (r s : Refusal) → slice_get t.members k ≡ Some m → at ≡ member_at m → r ≡ s → IsFirstOfMember w t (take k t.members) m (Some s)
    → IsLeast (MemberSpot w t k) (Some (record { at = at; refusal = r }))
least_member w t k m at r s e place same first =
    let P : Refusal → Type 0 = λ q. IsLeast (MemberSpot w t k) (Some (record { at = at; refusal = q })) in
    let Q : (x : Spot) → PlainMember → Type 0 = λ x n. MemberFault w t (take k t.members) n x.refusal in
    subst P (sym same) (
      record { member = m; stands = e; place = place; fault = first.0 },
      λ x h.
          let here_it : h.member ≡ m = same_member t k h.member m h.stands e in
          inr (place ∙ (sym (ap member_at here_it) ∙ sym h.place), first.1 x.refusal (subst (Q x) here_it h.fault)),
    )
