-- Fields that wait for the fields that they need, over plain lists.
use Rattle.std.proofs.Common.{◌≡◌, ◌≢◌, ◌⊎◌, ℕ, zero, suc, List, [], ◌∷◌, Some, None, refl, sym, ◌∙◌, ap, inl, inr, slice_get, set}
use Rattle.std.proofs.lemmas.Bool.Decides.{eqb_tells}
use Rattle.bcj_decl_rules.specs.declared.value.Value.{Value}
use Rattle.bcj_decl_constants.specs.Waiting.{Table, Worth, IsKnownAt, KnownBelow, AllAt}

-- no value is lost or changed
abbrev pub Grows : Table → Table → Type 0
Grows old new = (m : ℕ) (v : Value) → slice_get old m ≡ Some (Some v) → slice_get new m ≡ Some (Some v)

-- a function that says what fields are worth, and the numbers that each needs
pub record IsWorth (worth : Worth) (ids : ℕ → List ℕ) : Type 0 where
  pub strict : (vs : Table) (n : ℕ) (v : Value) → worth vs n ≡ Some v → AllAt vs (ids n)
  pub agrees : (old new : Table) (n : ℕ) → Grows old new → AllAt old (ids n) → worth old n ≡ worth new n

abbrev pub IsGood : Worth → Table → Type 0
IsGood worth vs = (n : ℕ) (v : Value) → slice_get vs n ≡ Some (Some v) → worth vs n ≡ Some v

pub all-grow : (old new : Table) (is : List ℕ) → Grows old new → AllAt old is → AllAt new is
all-grow old new is grows all i m h = let k : IsKnownAt old m = all i m h in (k.0, grows m k.0 k.1)

pub below-grow : (old new : Table) (is : List ℕ) (k : ℕ) → Grows old new → KnownBelow old is k → KnownBelow new is k
below-grow old new is k grows all i m lt h = let q : IsKnownAt old m = all i m lt h in (q.0, grows m q.0 q.1)

pub get-set_same : {A : Type 0} (xs : List A) (n : ℕ) (x y : A) → slice_get xs n ≡ Some x → slice_get (set xs n y) n ≡ Some y
get-set_same [] n x y h = absurd (cc)
get-set_same (z ∷ zs) zero x y h = refl
get-set_same (z ∷ zs) (suc n) x y h = get-set_same zs n x y h

pub get-set_other : {A : Type 0} (xs : List A) (n m : ℕ) (y : A) → m ≢ n → slice_get (set xs n y) m ≡ slice_get xs m
get-set_other [] n m y h = refl
get-set_other (z ∷ zs) zero zero y h = absurd (h refl)
get-set_other (z ∷ zs) zero (suc m) y h = refl
get-set_other (z ∷ zs) (suc n) zero y h = refl
get-set_other (z ∷ zs) (suc n) (suc m) y h = get-set_other zs n m y (λ e. h (ap suc e))

-- a number is another or isn't
pub same_or_not : (m n : ℕ) → (m ≡ n) ⊎ (m ≢ n)
same_or_not m n = elim (eqb_tells m n) [ inl same ↦ inl same.1 | inr other ↦ inr other.1 ]

-- a value more
pub grows-set : (vs : Table) (n : ℕ) (v : Value) → slice_get vs n ≡ Some None → Grows vs (set vs n (Some v))
grows-set vs n v free m u h =
    elim (same_or_not m n) [
      | inl same ↦
          let wrong : Some (Some u) ≡ Some None = sym h ∙ (ap (slice_get vs) same ∙ free) in
          absurd (cc)
      | inr other ↦ get-set_other vs n m (Some v) other ∙ h
    ]

pub good-set : (worth : Worth) (ids : ℕ → List ℕ) → IsWorth worth ids → (vs : Table) (n : ℕ) (v : Value) → IsGood worth vs → slice_get vs n ≡ Some None → worth vs n ≡ Some v
    → IsGood worth (set vs n (Some v))
good-set worth ids is vs n v good free it m u h =
    let grows : Grows vs (set vs n (Some v)) = grows-set vs n v free in
    elim (same_or_not m n) [
      | inl same ↦
          let here_it : Some (Some v) ≡ Some (Some u) = sym (get-set_same vs n None (Some v) free) ∙ (ap (slice_get (set vs n (Some v))) (sym same) ∙ h) in
          let value : v ≡ u = cc in
          ap (worth (set vs n (Some v))) same ∙ (sym (is.agrees vs (set vs n (Some v)) n grows (is.strict vs n v it)) ∙ (it ∙ ap Some value))
      | inr other ↦
          let before : slice_get vs m ≡ Some (Some u) = sym (get-set_other vs n m (Some v) other) ∙ h in
          let was : worth vs m ≡ Some u = good m u before in
          sym (is.agrees vs (set vs n (Some v)) m grows (is.strict vs m u was)) ∙ was
    ]
