-- The entries of a list of uses are the uses, each once.
use Rattle.std.proofs.Common.{◌≡◌, refl, ap, sym, ◌∙◌, Bool, true, false, ◌||◌, List, [], ◌∷◌, ◌++◌, if◌then◌else◌}
use Rattle.std.specs.List.{list_any, IsDistinct, AllByRecursion}
use Rattle.std.proofs.lemmas.List.Folds.{list_any-append}
use Rattle.bcj_symbolic_measure.specs.Entries.{PlainEntry, same_entry, with_entry, with_entries, entries_of, EntriesLaw}
use Rattle.bcj_symbolic_measure.specs.function.EntryTests.{same_entry-Decides}

or-left : (a b : Bool) → (a || b) ≡ false → a ≡ false
or-left true b h = h
or-left false b h = refl

or-right : (a b : Bool) → (a || b) ≡ false → b ≡ false
or-right true true h = h
or-right true false h = refl
or-right false b h = h

or-nothing : (a : Bool) → (a || false) ≡ a
or-nothing true = refl
or-nothing false = refl

or-assoc : (a b c : Bool) → ((a || b) || c) ≡ (a || (b || c))
or-assoc true b c = refl
or-assoc false b c = refl

other-way : (a b : PlainEntry) → same_entry a b ≡ false → same_entry b a ≡ false
other-way a b h = by (same_entry b a) refl
  where
    by : (r : Bool) → same_entry b a ≡ r → r ≡ false
    by false p = refl
    by true p =
        let q : same_entry a b ≡ true = (same_entry-Decides a b).1 (sym ((same_entry-Decides b a).0 p)) in sym q ∙ h

-- ---- no entry stands twice

all-last : (P : PlainEntry → Type 0) (xs : List PlainEntry) (e : PlainEntry) → AllByRecursion P xs → P e → AllByRecursion P (xs ++ e ∷ [])
all-last P [] e a p = (p, tt)
all-last P (x ∷ xs) e a p = (a.0, all-last P xs e a.1 p)

distinct-last : (xs : List PlainEntry) (e : PlainEntry) → IsDistinct same_entry xs → list_any (same_entry e) xs ≡ false → IsDistinct same_entry (xs ++ e ∷ [])
unfolding IsDistinct
distinct-last [] e d h = (tt, tt)
distinct-last (x ∷ xs) e d h = (
  all-last (λ y. same_entry x y ≡ false) xs e d.0 (other-way e x (or-left (same_entry e x) (list_any (same_entry e) xs) h)),
  distinct-last xs e d.1 (or-right (same_entry e x) (list_any (same_entry e) xs) h),
)

distinct-with : (xs : List PlainEntry) (e : PlainEntry) → IsDistinct same_entry xs → IsDistinct same_entry (with_entry xs e)
distinct-with xs e d = by (list_any (same_entry e) xs) refl
  where
    by : (r : Bool) → list_any (same_entry e) xs ≡ r → IsDistinct same_entry (if r then xs else xs ++ e ∷ [])
    by true p = d
    by false p = distinct-last xs e d p

distinct-all : (xs us : List PlainEntry) → IsDistinct same_entry xs → IsDistinct same_entry (with_entries xs us)
distinct-all xs [] d = d
distinct-all xs (u ∷ us) d = distinct-all (with_entry xs u) us (distinct-with xs u d)

none-distinct : IsDistinct same_entry []
unfolding IsDistinct
none-distinct = tt

-- ---- each use has an entry, and each entry a use

-- an entry that is there already adds none
there-already : (e u : PlainEntry) (xs : List PlainEntry) → list_any (same_entry u) xs ≡ true → list_any (same_entry e) xs ≡ (list_any (same_entry e) xs || same_entry e u)
there-already e u xs h = by (same_entry e u) refl
  where
    by : (r : Bool) → same_entry e u ≡ r → list_any (same_entry e) xs ≡ (list_any (same_entry e) xs || r)
    by false p = sym (or-nothing (list_any (same_entry e) xs))
    by true p =
        let q : list_any (same_entry e) xs ≡ true = ap (λ x. list_any (same_entry x) xs) ((same_entry-Decides e u).0 p) ∙ h in
        q ∙ sym (ap (λ b. b || true) q)

among-with : (e u : PlainEntry) (xs : List PlainEntry) → list_any (same_entry e) (with_entry xs u) ≡ (list_any (same_entry e) xs || same_entry e u)
among-with e u xs = by (list_any (same_entry u) xs) refl
  where
    by : (r : Bool) → list_any (same_entry u) xs ≡ r → list_any (same_entry e) (if r then xs else xs ++ u ∷ []) ≡ (list_any (same_entry e) xs || same_entry e u)
    by true p = there-already e u xs p
    by false p = list_any-append (same_entry e) xs (u ∷ []) ∙ ap (λ b. list_any (same_entry e) xs || b) (or-nothing (same_entry e u))

among-all : (e : PlainEntry) (xs us : List PlainEntry) → list_any (same_entry e) (with_entries xs us) ≡ (list_any (same_entry e) xs || list_any (same_entry e) us)
among-all e xs [] = sym (or-nothing (list_any (same_entry e) xs))
among-all e xs (u ∷ us) =
    among-all e (with_entry xs u) us
    ∙ ap (λ b. b || list_any (same_entry e) us) (among-with e u xs)
    ∙ or-assoc (list_any (same_entry e) xs) (same_entry e u) (list_any (same_entry e) us)

pub entries_law : EntriesLaw
unfolding entries_of
entries_law = (
  same_entry-Decides,
  λ uses. distinct-all [] uses none-distinct,
  λ uses e. (λ h. sym (among-all e [] uses) ∙ h, λ h. among-all e [] uses ∙ h),
)
