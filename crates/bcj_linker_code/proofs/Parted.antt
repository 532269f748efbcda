-- Relocations gone over once in rising order.
use Rattle.std.proofs.Common.{◌≡◌, ℕ, ◌+◌, ◌<◌, ◌≤◌, ◌≢◌, ◌%◌, true, false, List, [], ◌∷◌, length, get_or, drop, Option, None, Some, refl, sym, ap, subst, ◌∙◌, arith, eq-eqb, eqb-true}
use Rattle.std.specs.Prelude.{◌==◌}
use Rattle.std.specs.List.{find}
use Rattle.std.proofs.lemmas.Bool.{leb-true, ne_eqb}
use Rattle.std.proofs.lemmas.List.{drop_more, drop_all}
use Rattle.bcj_elf.proofs.Facts.{both}
use Rattle.bcj_elf.specs.declared.object.Section.{Section}
use Rattle.bcj_elf.specs.declared.object.Relocation.{Relocation}
use Rattle.bcj_elf.specs.Rules.{is_in_place, are_relocations}
use Rattle.bcj_linker_code.specs.Relocating.{AreFrom, AreParted}

-- a relocation in its place begins at the least offset or behind, at a word
in_place : (bytes : List ℕ) (least : ℕ) (r : Relocation) → is_in_place bytes least r ≡ true → (least ≤ r.offset) × (r.offset % 4 ≡ 0)
unfolding is_in_place
in_place bytes least r h =
    let p3 = both _ _ h in
    let p2 = both _ _ p3.0 in
    let p1 = both _ _ p2.0 in
    (leb-true _ _ p1.0, eqb-true _ _ p1.1)

-- the relocations of a section stand in rising order
pub in_order : (section : Section) (bytes : List ℕ) (symbols least : ℕ) (rs : List Relocation) → are_relocations section bytes symbols least rs ≡ true → AreFrom least rs
in_order section bytes symbols least [] h = tt
in_order section bytes symbols least (r ∷ rs) h =
    let more = both _ _ h in
    let here = both _ _ more.0 in
    let place = in_place bytes least r here.0 in
    (place.0, (place.1, in_order section bytes symbols (r.offset + 1) rs more.1))

-- from a later offset on is from an earlier one on
weaker : (least later : ℕ) (rs : List Relocation) → least ≤ later → AreFrom later rs → AreFrom least rs
weaker least later [] le h = tt
weaker least later (r ∷ rs) le h =
    let behind : later ≤ r.offset = h.0 in
    (omega arith, h.1)

-- behind the offset of a word comes the next word
next_word : (at : ℕ) (rs : List Relocation) → at % 4 ≡ 0 → AreFrom (at + 1) rs → AreFrom (at + 4) rs
next_word at [] aligned h = tt
next_word at (r ∷ rs) aligned h =
    let offset : r.offset % 4 ≡ 0 = h.1.0 in
    let behind : at + 1 ≤ r.offset = h.0 in
    (omega arith, h.1)

-- where the first one doesn't begin at an offset, all are behind it
behind_it : (at : ℕ) (r : Relocation) (rs : List Relocation) → r.offset ≢ at → AreFrom at (r ∷ rs) → AreFrom (at + 1) (r ∷ rs)
behind_it at r rs other h =
    let least : at ≤ r.offset = h.0 in
    (omega arith, h.1)

-- none behind an offset is found there
none_found : (at : ℕ) (rs : List Relocation) → AreFrom (at + 1) rs → find (λ r. r.offset == at) rs ≡ None
none_found at [] h = refl
none_found at (r ∷ rs) h =
    let behind : at + 1 ≤ r.offset = h.0 in
    let other : (r.offset == at) ≡ false = ne_eqb _ _ (λ e. omega arith) in
    rw other (none_found at rs (weaker (at + 1) (r.offset + 1) rs (omega arith) h.1.1))

-- the one that begins at an offset is found there, if it is the first one
first_found : (at : ℕ) (r : Relocation) (rs : List Relocation) → r.offset ≡ at → find (λ s. s.offset == at) (r ∷ rs) ≡ Some r
first_found at r rs here = let same : (r.offset == at) ≡ true = eq-eqb _ _ here in rw same refl

-- and it isn't found elsewhere
first_elsewhere : (q : ℕ) (r : Relocation) (rs : List Relocation) → r.offset ≢ q → find (λ s. s.offset == q) (r ∷ rs) ≡ find (λ s. s.offset == q) rs
first_elsewhere q r rs other = let differs : (r.offset == q) ≡ false = ne_eqb _ _ other in rw differs refl

-- what is left begins with the next one
left_by : (rs : List Relocation) (passed : ℕ) (r : Relocation) → passed < length rs → r ≡ get_or rs passed r → drop passed rs ≡ r ∷ drop (passed + 1) rs
left_by rs passed r lt is = drop_more rs passed r lt ∙ ap (λ s. s ∷ drop (passed + 1) rs) (sym is)

-- before the first word none is passed
pub none_passed : (rs : List Relocation) → AreFrom 0 rs → AreParted rs 0 0
none_passed rs h = record { aligned = refl; left = h; found = λ q le. refl }

-- what the word at an offset has, and what is left behind it
pub record Goes (rs : List Relocation) (passed at : ℕ) (o : Option Relocation) : Type 0 where
  pub found : o ≡ find (λ s. s.offset == at) rs
  pub parted : AreParted rs passed (at + 4)

-- the first one that is left begins at the offset, and is passed
pub one_passed : (rs : List Relocation) (passed at : ℕ) (r : Relocation) → passed < length rs → r ≡ get_or rs passed r → r.offset ≡ at → AreParted rs passed at → Goes rs (passed + 1) at (Some r)
one_passed rs passed at r lt is here h =
    let aligned : at % 4 ≡ 0 = h.aligned in
    let e : drop passed rs ≡ r ∷ drop (passed + 1) rs = left_by rs passed r lt is in
    let left : AreFrom at (r ∷ drop (passed + 1) rs) = subst (AreFrom at) e h.left in
    record {
      found = sym (h.found at (omega arith) ∙ ap (find (λ s. s.offset == at)) e ∙ first_found at r _ here);
      parted = record {
        aligned = omega arith;
        left = next_word at _ aligned (weaker (at + 1) (r.offset + 1) _ (omega arith) left.1.1);
        found = λ q le. h.found q (omega arith) ∙ ap (find (λ s. s.offset == q)) e ∙ first_elsewhere q r _ (λ e. omega arith);
      };
    }

-- where the first one that is left is behind an offset, the next word is as far
further : (rs : List Relocation) (passed at : ℕ) → AreFrom (at + 1) (drop passed rs) → AreParted rs passed at → Goes rs passed at None
further rs passed at left h =
    let aligned : at % 4 ≡ 0 = h.aligned in
    record {
      found = sym (h.found at (omega arith) ∙ none_found at (drop passed rs) left);
      parted = record {
        aligned = omega arith;
        left = next_word at _ aligned left;
        found = λ q le. h.found q (omega arith);
      };
    }

-- the first one that is left begins elsewhere
pub not_yet : (rs : List Relocation) (passed at : ℕ) (r : Relocation) → passed < length rs → r ≡ get_or rs passed r → r.offset ≢ at → AreParted rs passed at → Goes rs passed at None
not_yet rs passed at r lt is other h =
    let e : drop passed rs ≡ r ∷ drop (passed + 1) rs = left_by rs passed r lt is in
    further rs passed at (subst (AreFrom (at + 1)) (sym e) (behind_it at r _ other (subst (AreFrom at) e h.left))) h

-- none is left
pub none_left : (rs : List Relocation) (passed at : ℕ) → length rs ≤ passed → AreParted rs passed at → Goes rs passed at None
none_left rs passed at le h = further rs passed at (subst (AreFrom (at + 1)) (sym (drop_all passed rs le)) tt) h
