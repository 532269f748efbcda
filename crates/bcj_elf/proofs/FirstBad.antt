-- The first bad field of lists that are put together.
use Rattle.std.proofs.Common.{◌≡◌, ℕ, Bool, true, false, List, [], ◌∷◌, ◌++◌, Option, Some, None, Result, Ok, Err, OnOk, refl, sym, ap, ◌∙◌}
use Rattle.std.specs.Result.{IsErrAnd}
use Rattle.std.proofs.lemmas.List.{append-nil}
use Rattle.std.proofs.lemmas.Result.{err_from_is_err_and}
use Rattle.bcj_elf.specs.declared.field.BadField.{BadField}
use Rattle.bcj_elf.specs.Fields.{Field, is_good, first_bad}
use Rattle.bcj_elf.specs.function.Judging.{verdict}

pub good_first : (bytes : List ℕ) (f : Field) (fs : List Field) → is_good bytes f ≡ true → first_bad bytes (f ∷ fs) ≡ first_bad bytes fs
unfolding first_bad
good_first bytes f fs h = rw h refl

pub bad_first : (bytes : List ℕ) (f : Field) (fs : List Field) → is_good bytes f ≡ false → first_bad bytes (f ∷ fs) ≡ Some (f.at, f.name)
unfolding first_bad
bad_first bytes f fs h = rw h refl

-- what is first of one list or, where it has none, of another
abbrev pub or_else : Option (ℕ × List ℕ) → Option (ℕ × List ℕ) → Option (ℕ × List ℕ)
or_else None other = other
or_else (Some p) other = Some p

cases : (bytes : List ℕ) (f : Field) (fs gs : List Field) (good : Bool) → is_good bytes f ≡ good → first_bad bytes (fs ++ gs) ≡ or_else (first_bad bytes fs) (first_bad bytes gs)
    → first_bad bytes (f ∷ (fs ++ gs)) ≡ or_else (first_bad bytes (f ∷ fs)) (first_bad bytes gs)
cases bytes f fs gs true h e = good_first bytes f (fs ++ gs) h ∙ e ∙ ap (λ z. or_else z (first_bad bytes gs)) (sym (good_first bytes f fs h))
cases bytes f fs gs false h e = bad_first bytes f (fs ++ gs) h ∙ ap (λ z. or_else z (first_bad bytes gs)) (sym (bad_first bytes f fs h))

pub first_bad-append : (bytes : List ℕ) (fs gs : List Field) → first_bad bytes (fs ++ gs) ≡ or_else (first_bad bytes fs) (first_bad bytes gs)
unfolding first_bad
first_bad-append bytes [] gs = refl
first_bad-append bytes (f ∷ fs) gs = cases bytes f fs gs (is_good bytes f) refl (first_bad-append bytes fs gs)

-- A bad field of the first list is that of both.
pub first_stays : (bytes : List ℕ) (fs gs : List Field) (p : ℕ × List ℕ) → Some p ≡ first_bad bytes fs → first_bad bytes (fs ++ gs) ≡ Some p
first_stays bytes fs gs p e = first_bad-append bytes fs gs ∙ ap (λ z. or_else z (first_bad bytes gs)) (sym e)

-- Where the first list has none, it is that of the second.
pub first_moves : (bytes : List ℕ) (fs gs : List Field) → None ≡ first_bad bytes fs → first_bad bytes (fs ++ gs) ≡ first_bad bytes gs
first_moves bytes fs gs e = first_bad-append bytes fs gs ∙ ap (λ z. or_else z (first_bad bytes gs)) (sym e)

pub first_alone : (bytes : List ℕ) (fs : List Field) → first_bad bytes (fs ++ []) ≡ first_bad bytes fs
first_alone bytes fs = ap (first_bad bytes) (append-nil fs)

pub ruleset firsts = (first_stays, first_moves, first_alone)

none_of_both : (a b : Option (ℕ × List ℕ)) → None ≡ or_else a b → (None ≡ a) × (None ≡ b)
none_of_both None b e = (refl, e)
none_of_both (Some p) b e = absurd cc

-- Where two lists have no bad field, neither has one.
pub none_of : (bytes : List ℕ) (fs gs : List Field) → None ≡ first_bad bytes (fs ++ gs) → (None ≡ first_bad bytes fs) × (None ≡ first_bad bytes gs)
none_of bytes fs gs e = none_of_both (first_bad bytes fs) (first_bad bytes gs) (e ∙ first_bad-append bytes fs gs)

-- each field is good
abbrev pub AreGood : List ℕ → List Field → Type 0
AreGood bytes [] = Unit {0}
AreGood bytes (f ∷ fs) = (is_good bytes f ≡ true) × AreGood bytes fs

good_cases : (bytes : List ℕ) (f : Field) (fs : List Field) (good : Bool) → is_good bytes f ≡ good → None ≡ first_bad bytes (f ∷ fs) → (is_good bytes f ≡ true) × (None ≡ first_bad bytes fs)
good_cases bytes f fs true h e = (h, e ∙ good_first bytes f fs h)
good_cases bytes f fs false h e = let clash = e ∙ bad_first bytes f fs h in absurd cc

pub are_good : (bytes : List ℕ) (fs : List Field) → None ≡ first_bad bytes fs → AreGood bytes fs
are_good bytes [] e = tt
are_good bytes (f ∷ fs) e = let p = good_cases bytes f fs (is_good bytes f) refl e in (p.0, are_good bytes fs p.1)

-- What holds where no field is bad holds on Ok.
pub on_ok : {T : Type 0} (P : Type 0) (r : Result T BadField) (place : Option (ℕ × List ℕ)) → verdict r ≡ place → (None ≡ place → P) → OnOk r P
on_ok P (Ok x) place e h = h e
on_ok P (Err b) place e h = tt

-- At the exit of a `?` the answer is the bad field of the call.
pub exit : {T : Type 0} (r : Result T BadField) (b : BadField) (place : Option (ℕ × List ℕ)) → IsErrAnd r (λ y. y ≡ b) → Some (b.at, b.what.now) ≡ place → verdict r ≡ place
exit r b place e h = let p = err_from_is_err_and r e in rw (p.1, p.2) h

-- one field and those behind it
pub one_stays : (bytes : List ℕ) (f : Field) (fs : List Field) (p : ℕ × List ℕ) → Some p ≡ first_bad bytes (f ∷ []) → first_bad bytes (f ∷ fs) ≡ Some p
one_stays bytes f fs p e = first_stays bytes (f ∷ []) fs p e

pub one_moves : (bytes : List ℕ) (f : Field) (fs : List Field) → None ≡ first_bad bytes (f ∷ []) → first_bad bytes (f ∷ fs) ≡ first_bad bytes fs
one_moves bytes f fs e = first_moves bytes (f ∷ []) fs e
