-- That leaving out repeats keeps what a search finds first.
use Rattle.std.proofs.Common.{◌≡◌, List, [], ◌∷◌, ◌++◌, Option, Some, None, Bool, true, false, cond, refl, sym, ◌∙◌, ap, ℕ, zero, suc, inl, inr, arith, slice_get, nat_eq, fold, append_assoc, append-nil}
use Rattle.std.proofs.lemmas.Bool.{or_cases, cases_Bool, eqb-true}
use Rattle.std.proofs.lemmas.List.Folds.{find-append}
use Rattle.std.proofs.lemmas.List.Elements.{All-append, filter_map-append}
use Rattle.std.specs.List.{find, filter_map, cons_option, list_any, flat_map, All}
use Rattle.std.specs.Option.{option_map_or, option_and_then, option_or}
use Rattle.indexmap.specs.IndexSet.{insert_key, insert_all}

-- ---- places

-- the first place of any kind is the same
abbrev pub SameFirst : List ℕ → List ℕ → Type 0
SameFirst ks ls = (q : ℕ → Bool) → find q ks ≡ find q ls

or_none : (o : Option ℕ) → option_or o None ≡ o
or_none None = refl
or_none (Some k) = refl

-- behind the same places
same_behind : (ks ls xs : List ℕ) → SameFirst ks ls → SameFirst (ks ++ xs) (ls ++ xs)
same_behind ks ls xs same q = find-append q ks xs ∙ (ap (λ o. option_or o (find q xs)) (same q) ∙ sym (find-append q ls xs))

-- a place that isn't of the kind
other_kind : (q : ℕ → Bool) (ks : List ℕ) (x : ℕ) → q x ≡ false → find q ks ≡ find q (ks ++ x ∷ [])
other_kind q ks x differs = sym (find-append q ks (x ∷ []) ∙ (ap (λ b. option_or (find q ks) (cond b (Some x) None)) differs ∙ or_none (find q ks)))

same_number : (x k : ℕ) → nat_eq x k ≡ true → x ≡ k
same_number x k h = eqb-true x k h

-- a place that stands there already
repeated : (q : ℕ → Bool) (ks : List ℕ) (x : ℕ) → list_any (nat_eq x) ks ≡ true → find q ks ≡ find q (ks ++ x ∷ [])
repeated q [] x h = absurd (cc)
repeated q (k ∷ ks) x h =
    elim (cases_Bool (q k)) [
      | inl hit ↦ ap (λ b. cond b (Some k) (find q ks)) hit ∙ sym (ap (λ b. cond b (Some k) (find q (ks ++ x ∷ []))) hit)
      | inr miss ↦
          let rest : find q ks ≡ find q (ks ++ x ∷ []) =
          elim (or_cases (nat_eq x k) (list_any (nat_eq x) ks) h) [
            | inl it ↦ other_kind q ks x (ap q (same_number x k it) ∙ miss)
            | inr behind ↦ repeated q ks x behind
          ] in
          ap (λ b. cond b (Some k) (find q ks)) miss ∙ (rest ∙ sym (ap (λ b. cond b (Some k) (find q (ks ++ x ∷ []))) miss))
    ]

one_key : (ks : List ℕ) (x : ℕ) → SameFirst (insert_key nat_eq ks x) (ks ++ x ∷ [])
one_key ks x q =
    elim (cases_Bool (list_any (nat_eq x) ks)) [
      | inl there ↦ ap (λ b. find q (cond b ks (ks ++ x ∷ []))) there ∙ repeated q ks x there
      | inr new ↦ ap (λ b. find q (cond b ks (ks ++ x ∷ []))) new
    ]

-- places put into a set stand behind those there, but for repeats
pub all_keys : (ks xs : List ℕ) → SameFirst (insert_all nat_eq ks xs) (ks ++ xs)
all_keys ks [] q = ap (find q) (sym (append-nil ks))
all_keys ks (x ∷ xs) q =
    all_keys (insert_key nat_eq ks x) xs q ∙ (same_behind (insert_key nat_eq ks x) (ks ++ x ∷ []) xs (one_key ks x) q ∙ ap (find q) (append_assoc ks (x ∷ []) xs))

-- and those of several lists
pub all_lists : {N : Type 0} (f : N → List ℕ) (ks : List ℕ) (names : List N) → SameFirst (fold (λ ls name. insert_all nat_eq ls (f name)) ks names) (ks ++ flat_map f names)
all_lists f ks [] q = ap (find q) (sym (append-nil ks))
all_lists f ks (n ∷ ns) q =
    all_lists f (insert_all nat_eq ks (f n)) ns q
    ∙ (same_behind (insert_all nat_eq ks (f n)) (ks ++ f n) (flat_map f ns) (all_keys ks (f n)) q ∙ ap (find q) (append_assoc ks (f n) (flat_map f ns)))

-- ---- what stands at the places

abbrev at_is : {T : Type 0} → List T → (T → Bool) → ℕ → Bool
at_is w p k = option_map_or p (slice_get w k) false

hit_by : {T : Type 0} (w : List T) (p : T → Bool) (k : ℕ) (rest : Option ℕ) (o : Option T) → slice_get w k ≡ o → (b : Bool) → option_map_or p o false ≡ b → (xs : List T) → find p xs ≡ option_and_then (slice_get w) rest
    → find p (cons_option o xs) ≡ option_and_then (slice_get w) (cond (option_map_or p o false) (Some k) rest)
hit_by w p k rest None e b it xs again = again
hit_by w p k rest (Some t) e true it xs again = ap (λ c. cond c (Some t) (find p xs)) it ∙ (sym e ∙ sym (ap (λ c. option_and_then (slice_get w) (cond c (Some k) rest)) it))
hit_by w p k rest (Some t) e false it xs again = ap (λ c. cond c (Some t) (find p xs)) it ∙ (again ∙ sym (ap (λ c. option_and_then (slice_get w) (cond c (Some k) rest)) it))

-- the first of a kind stands at the first place that has one
first_at : {T : Type 0} (w : List T) (p : T → Bool) (ks : List ℕ) → find p (filter_map (slice_get w) ks) ≡ option_and_then (slice_get w) (find (at_is w p) ks)
first_at w p [] = refl
first_at w p (k ∷ ks) = hit_by w p k (find (at_is w p) ks) (slice_get w k) refl (at_is w p k) refl (filter_map (slice_get w) ks) (first_at w p ks)

pub same_at : {T : Type 0} (w : List T) (ks ls : List ℕ) → SameFirst ks ls → (p : T → Bool) → find p (filter_map (slice_get w) ks) ≡ find p (filter_map (slice_get w) ls)
same_at w ks ls same p = first_at w p ks ∙ (ap (option_and_then (slice_get w)) (same (at_is w p)) ∙ sym (first_at w p ls))

-- list by list
pub same_lists : {N T : Type 0} (w : List T) (f : N → List ℕ) (g : N → List T) (p : T → Bool) (names : List N) → ((i : ℕ) (n : N) → slice_get names i ≡ Some n → find p (filter_map (slice_get w) (f n)) ≡ find p (g n))
    → find p (filter_map (slice_get w) (flat_map f names)) ≡ find p (flat_map g names)
same_lists w f g p [] each = refl
same_lists w f g p (n ∷ ns) each =
    ap (find p) (filter_map-append (slice_get w) (f n) (flat_map f ns))
    ∙ (find-append p (filter_map (slice_get w) (f n)) (filter_map (slice_get w) (flat_map f ns))
    ∙ (ap (λ o. option_or o (find p (filter_map (slice_get w) (flat_map f ns)))) (each zero n refl)
    ∙ (ap (option_or (find p (g n))) (same_lists w f g p ns (λ i m e. each (suc i) m e)) ∙ sym (find-append p (g n) (flat_map g ns)))))

-- ---- what holds of each place

All-rest : (P : ℕ → Type 0) (x : ℕ) (xs : List ℕ) → All P (x ∷ xs) → All P xs
All-rest P x xs all k d h = all (suc k) d (omega arith)

All-one : (P : ℕ → Type 0) (x : ℕ) (xs : List ℕ) → All P (x ∷ xs) → All P (x ∷ [])
All-one P x xs all zero d h = all zero d (omega arith)
All-one P x xs all (suc k) d h = absurd (omega arith)

All-key : (P : ℕ → Type 0) (ks : List ℕ) (x : ℕ) → All P ks → All P (x ∷ []) → All P (insert_key nat_eq ks x)
All-key P ks x all one = elim (list_any (nat_eq x) ks) as (λ b. All P (cond b ks (ks ++ x ∷ []))) [ true ↦ all | false ↦ All-append P ks (x ∷ []) all one ]

pub All-keys : (P : ℕ → Type 0) (ks xs : List ℕ) → All P ks → All P xs → All P (insert_all nat_eq ks xs)
All-keys P ks [] all more = all
All-keys P ks (x ∷ xs) all more = All-keys P (insert_key nat_eq ks x) xs (All-key P ks x all (All-one P x xs more)) (All-rest P x xs more)

pub All-lists : {N : Type 0} (P : ℕ → Type 0) (f : N → List ℕ) (ks : List ℕ) (names : List N) → All P ks → ((i : ℕ) (n : N) → slice_get names i ≡ Some n → All P (f n))
    → All P (fold (λ ls name. insert_all nat_eq ls (f name)) ks names)
All-lists P f ks [] all each = all
All-lists P f ks (n ∷ ns) all each = All-lists P f (insert_all nat_eq ks (f n)) ns (All-keys P ks (f n) all (each zero n refl)) (λ i m e. each (suc i) m e)
