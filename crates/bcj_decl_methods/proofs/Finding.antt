-- The first element of a list that passes a test.
use Rattle.std.proofs.Common.{◌≡◌, ◌<◌, ◌++◌, List, [], ◌∷◌, filter, Option, Some, None, Bool, true, false, cond, ◌||◌, ◌&&◌, refl, sym, ◌∙◌, ap, subst, ℕ, zero, suc, length, inl, inr, arith, slice_index_or}
use Rattle.std.proofs.lemmas.Bool.{or_cases, or_parts, cases_Bool}
use Rattle.std.proofs.lemmas.List.Folds.{find-append}
use Rattle.std.specs.List.{All, Contains, find, list_any, flat_map}
use Rattle.std.specs.Option.{option_or, option_and_then}

pub both_true : (a b : Bool) → a ≡ true → b ≡ true → (a && b) ≡ true
both_true a b p q = ap (λ c. c && b) p ∙ q

pub or_left : (a b : Bool) → a ≡ true → (a || b) ≡ true
or_left a b p = ap (λ c. c || b) p

pub or_right : (a b : Bool) → b ≡ true → (a || b) ≡ true
or_right true b p = refl
or_right false b p = p

-- an element that was found, with its place
pub record Found {X : Type 0} (p : X → Bool) (xs : List X) (x : X) : Type 0 where
  pub before : List X
  pub behind : List X
  pub at : xs ≡ before ++ x ∷ behind
  pub passes : p x ≡ true
  pub first : find p before ≡ None

pub found_by : {X : Type 0} (p : X → Bool) (xs : List X) (x : X) → find p xs ≡ Some x → Found p xs x
found_by p [] x e = cc
found_by p (y ∷ ys) x e =
    elim (cases_Bool (p y)) [
      | inl it ↦
          let here_it : Some y ≡ Some x = ap (λ b. cond b (Some y) (find p ys)) (sym it) ∙ e in
          let same : y ≡ x = cc in
          record { before = []; behind = ys; at = ap (λ z. z ∷ ys) same; passes = ap p (sym same) ∙ it; first = refl }
      | inr other ↦
          let rest : Found p ys x = found_by p ys x (ap (λ b. cond b (Some y) (find p ys)) (sym other) ∙ e) in
          record {
            before = y ∷ rest.before;
            behind = rest.behind;
            at = ap (λ l. y ∷ l) rest.at;
            passes = rest.passes;
            first = ap (λ b. cond b (Some y) (find p rest.before)) other ∙ rest.first;
          }
    ]

pub find_here : {X : Type 0} (p : X → Bool) (before : List X) (x : X) (behind : List X) → find p before ≡ None → p x ≡ true → find p (before ++ x ∷ behind) ≡ Some x
find_here p before x behind none it =
    find-append p before (x ∷ behind) ∙ (ap (λ o. option_or o (find p (x ∷ behind))) none ∙ ap (λ b. cond b (Some x) (find p behind)) it)

-- where an element passes one is found
pub finds_at : {X : Type 0} (p : X → Bool) (xs : List X) (k : ℕ) (d : X) → k < length xs → p (slice_index_or xs k d) ≡ true → (x : X) × (find p xs ≡ Some x)
finds_at p [] k d h it = absurd (omega arith)
finds_at p (y ∷ ys) zero d h it = (y, ap (λ b. cond b (Some y) (find p ys)) it)
finds_at p (y ∷ ys) (suc k) d h it =
    elim (cases_Bool (p y)) [
      | inl here_it ↦ (y, ap (λ b. cond b (Some y) (find p ys)) here_it)
      | inr other ↦
          let below : k < length ys = omega (arith, h) in
          let rest : (x : _) × (find p ys ≡ Some x) = finds_at p ys k d below it in
          (rest.0, ap (λ b. cond b (Some y) (find p ys)) other ∙ rest.1)
    ]

pub finds : {X : Type 0} (p : X → Bool) (xs : List X) (x : X) → Contains xs x → p x ≡ true → (y : X) × (find p xs ≡ Some y)
finds p xs x c it = finds_at p xs c.0 x c.1 (ap p c.2 ∙ it)

pub none_passes : {X : Type 0} (p : X → Bool) (xs : List X) (x : X) → Contains xs x → p x ≡ true → find p xs ≡ None → ⊥
none_passes p xs x c it none =
    let some : (y : _) × (find p xs ≡ Some y) = finds p xs x c it in
    let wrong : Some some.0 ≡ None = sym some.1 ∙ none in
    cc

pub contains_behind : {X : Type 0} (x : X) (xs : List X) (y : X) → Contains xs y → Contains (x ∷ xs) y
contains_behind x xs y c = (suc c.0, omega (arith, c.1), c.2)

pub contains_first : {X : Type 0} (x : X) (xs : List X) → Contains (x ∷ xs) x
contains_first x xs = (0, omega arith, refl)

pub contains_at : {X : Type 0} (before : List X) (x : X) (behind : List X) → Contains (before ++ x ∷ behind) x
contains_at [] x behind = contains_first x behind
contains_at (y ∷ ys) x behind = contains_behind y (ys ++ x ∷ behind) x (contains_at ys x behind)

pub found_in : {X : Type 0} (p : X → Bool) (xs : List X) (x : X) → find p xs ≡ Some x → Contains xs x
found_in {X} p xs x e =
    let f : Found p xs x = found_by p xs x e in
    let P : List X → Type 0 = λ l. Contains l x in
    subst P (sym f.at) (contains_at f.before x f.behind)

pub any_found : {X : Type 0} (p : X → Bool) (xs : List X) → list_any p xs ≡ true → (x : X) × Contains xs x × (p x ≡ true)
any_found p [] h = cc
any_found p (x ∷ xs) h =
    elim (or_cases (p x) (list_any p xs) h) [
      | inl it ↦ (x, contains_first x xs, it)
      | inr other ↦
          let rest : (y : _) × Contains xs y × (p y ≡ true) = any_found p xs other in
          (rest.0, contains_behind x xs rest.0 rest.1, rest.2)
    ]

-- what holds of none doesn't hold of what is found
pub in_all : {X : Type 0} (P : X → Type 0) (xs : List X) (x : X) → All P xs → Contains xs x → P x
in_all P xs x all c = subst P c.2 (all c.0 x c.1)

-- ---- filters

find_cond : {X : Type 0} (g : X → Bool) (x : X) (xs : List X) (b : Bool) → find g (cond b (x ∷ xs) xs) ≡ cond (b && g x) (Some x) (find g xs)
find_cond g x xs true = refl
find_cond g x xs false = refl

pub find_filter : {X : Type 0} (g p : X → Bool) (xs : List X) → find g (filter p xs) ≡ find (λ x. p x && g x) xs
find_filter g p [] = refl
find_filter g p (x ∷ xs) = find_cond g x (filter p xs) (p x) ∙ ap (λ o. cond (p x && g x) (Some x) o) (find_filter g p xs)

pub find_alike : {X : Type 0} (p q : X → Bool) (xs : List X) → ((x : X) → Contains xs x → p x ≡ q x) → find p xs ≡ find q xs
find_alike p q [] same = refl
find_alike p q (x ∷ xs) same =
    ap (λ b. cond b (Some x) (find p xs)) (same x (contains_first x xs)) ∙ ap (λ o. cond (q x) (Some x) o) (find_alike p q xs (λ y c. same y (contains_behind x xs y c)))

pub find_none : {X : Type 0} (p : X → Bool) (xs : List X) → find p xs ≡ None → list_any p xs ≡ false
find_none p [] e = refl
find_none p (x ∷ xs) e =
    elim (cases_Bool (p x)) [
      | inl it ↦
          let wrong : Some x ≡ None = ap (λ b. cond b (Some x) (find p xs)) (sym it) ∙ e in
          absurd (cc)
      | inr other ↦ ap (λ b. b || list_any p xs) other ∙ find_none p xs (ap (λ b. cond b (Some x) (find p xs)) (sym other) ∙ e)
    ]

pub any_none : {X : Type 0} (p : X → Bool) (xs : List X) → list_any p xs ≡ false → find p xs ≡ None
any_none p [] e = refl
any_none p (x ∷ xs) e =
    let parts : (p x ≡ false) × (list_any p xs ≡ false) = or_parts (p x) (list_any p xs) e in
    ap (λ b. cond b (Some x) (find p xs)) parts.0 ∙ any_none p xs parts.1

-- ---- lists of lists

pub or_same : {X : Type 0} (o a b : Option X) → (o ≡ None → a ≡ b) → option_or o a ≡ option_or o b
or_same None a b same = same refl
or_same (Some x) a b same = refl

-- the first of the first list that has one
pub find_flat : {X Y : Type 0} (p : Y → Bool) (f : X → List Y) (xs : List X) → find p (flat_map f xs) ≡ option_and_then (λ x. find p (f x)) (find (λ x. list_any p (f x)) xs)
find_flat p f [] = refl
find_flat p f (x ∷ xs) =
    elim (cases_Bool (list_any p (f x))) [
      | inl it ↦
          let some : (y : _) × (find p (f x) ≡ Some y) = (let a : (z : _) × Contains (f x) z × (p z ≡ true) = any_found p (f x) it in finds p (f x) a.0 a.1 a.2) in
          find-append p (f x) (flat_map f xs)
          ∙ (ap (λ o. option_or o (find p (flat_map f xs))) some.1
          ∙ (sym some.1 ∙ ap (λ b. option_and_then (λ z. find p (f z)) (cond b (Some x) (find (λ z. list_any p (f z)) xs))) (sym it)))
      | inr none ↦
          find-append p (f x) (flat_map f xs)
          ∙ (ap (λ o. option_or o (find p (flat_map f xs))) (any_none p (f x) none)
          ∙ (find_flat p f xs ∙ ap (λ b. option_and_then (λ z. find p (f z)) (cond b (Some x) (find (λ z. list_any p (f z)) xs))) (sym none)))
    ]

pub flat_alike : {X Y : Type 0} (p q : Y → Bool) (f g : X → List Y) (xs : List X) → ((x : X) → find p (f x) ≡ find q (g x)) → find p (flat_map f xs) ≡ find q (flat_map g xs)
flat_alike p q f g [] same = refl
flat_alike p q f g (x ∷ xs) same =
    find-append p (f x) (flat_map f xs)
    ∙ (ap (λ o. option_or o (find p (flat_map f xs))) (same x) ∙ (ap (λ o. option_or (find q (g x)) o) (flat_alike p q f g xs same) ∙ sym (find-append q (g x) (flat_map g xs))))
