-- When a file is read and when it is refused.
use Rattle.std.proofs.Common.{◌≡◌, ℕ, true, false, List, Option, Some, None, sym, ap, subst, ◌∙◌}
use Rattle.std.specs.Cmp.Derive.{both_true}
use Rattle.std.specs.Str.{bytes_eq}
use Rattle.std.proofs.lemmas.Bool.{ltb-true, lt-ltb, eqb-true, eq-eqb}
use Rattle.std.proofs.lemmas.Slice.Eq.{bytes_eq-Decides}
use Rattle.bcj_elf.specs.Plain.{PlainObject}
use Rattle.bcj_elf.specs.Rules.{IsObject}
use Rattle.bcj_elf.specs.function.Acceptance.{meets_rules}
use Rattle.bcj_elf.specs.Spelling.{spelling}
use Rattle.bcj_elf.specs.function.Reading.{Contents, contents_at, object_of}
use Rattle.bcj_elf.proofs.Facts.{both}
use Rattle.bcj_elf.proofs.Again.{object_there}

pub meets : (o : PlainObject) → meets_rules o ≡ true → IsObject o
unfolding meets_rules
meets o h =
    let p5 = both _ _ h in
    let p4 = both _ _ p5.0 in
    let p3 = both _ _ p4.0 in
    let p2 = both _ _ p3.0 in
    let p1 = both _ _ p2.0 in
    record { text_words = eqb-true _ _ p1.0; tab_words = eqb-true _ _ p1.1; symbols = p3.1; text_relocs = p4.1; tab_relocs = p5.1; small = ltb-true _ _ p2.1 }

pub is_met : (o : PlainObject) → IsObject o → meets_rules o ≡ true
unfolding meets_rules
is_met o h = both_true (both_true (both_true (both_true (both_true (eq-eqb _ _ h.text_words) (eq-eqb _ _ h.tab_words)) (lt-ltb _ _ h.small)) h.symbols) h.text_relocs) h.tab_relocs

pub refuse_places : (bytes : List ℕ) (r : Option Contents) → r ≡ None → r ≡ contents_at bytes → (p : PlainObject) → IsObject p → spelling p ≡ bytes → ⊥
refuse_places bytes r none places p h e = let there = (object_there p bytes h e).1 in cc

candidate_is : (bytes : List ℕ) (c : Contents) (q : PlainObject) → Some c ≡ contents_at bytes → q ≡ object_of c → (p : PlainObject) → IsObject p → spelling p ≡ bytes → q ≡ p
candidate_is bytes c q places is p h e =
    let there = object_there p bytes h e in
    let both_some : Some c ≡ Some there.0 = places ∙ there.1 in
    let same : c ≡ there.0 = cc in
    is ∙ ap object_of same ∙ there.2

pub refuse_rules : (bytes : List ℕ) (c : Contents) (q : PlainObject) → Some c ≡ contents_at bytes → q ≡ object_of c → (IsObject q → false ≡ true) → (p : PlainObject) → IsObject p → spelling p ≡ bytes → ⊥
refuse_rules bytes c q places is broken p h e =
    let clash = broken (subst IsObject (sym (candidate_is bytes c q places is p h e)) h) in
    cc

pub refuse_bytes : (bytes again : List ℕ) (c : Contents) (q : PlainObject) → Some c ≡ contents_at bytes → q ≡ object_of c → again ≡ spelling q → bytes_eq again bytes ≡ false
    → (p : PlainObject) → IsObject p → spelling p ≡ bytes → ⊥
refuse_bytes bytes again c q places is spelled differs p h e =
    let same : again ≡ bytes = spelled ∙ ap spelling (candidate_is bytes c q places is p h e) ∙ e in
    let test : bytes_eq again bytes ≡ true = (bytes_eq-Decides again bytes).1 same in
    let clash : false ≡ true = sym differs ∙ test in
    cc

pub is_spelled : (bytes again : List ℕ) (q : PlainObject) → again ≡ spelling q → bytes_eq again bytes ≡ true → spelling q ≡ bytes
is_spelled bytes again q spelled test = sym spelled ∙ (bytes_eq-Decides again bytes).0 test
