-- The work at its beginning.
use Rattle.std.proofs.Common.{◌≡◌, ◌<◌, ◌+◌, ◌++◌, ℕ, zero, suc, List, [], ◌∷◌, length, replicate, Option, Some, None, refl, sym, ◌∙◌, ap, subst, inl, inr, arith, slice_get}
use Rattle.bcj_decl_rules.specs.declared.value.Value.{Value}
use Rattle.bcj_decl_constants.specs.declared.waiting.Waiter.{Waiter}
use Rattle.bcj_decl_constants.specs.Waiting.{Worth, list_at, Has, IsSound, IsOrderly, State, Places, Orderly, IsStep}
use Rattle.bcj_decl_constants.proofs.Core.{same_or_not}

replicate_suc : {A : Type 0} (x : A) (n : ℕ) → replicate n x ++ x ∷ [] ≡ replicate (suc n) x
replicate_suc x zero = refl
replicate_suc x (suc n) = ap (λ l. x ∷ l) (replicate_suc x n)

pub replicate_more : {A : Type 0} (x : A) (n : ℕ) → replicate n x ++ x ∷ [] ≡ replicate (n + 1) x
replicate_more x n =
    let same : suc n ≡ n + 1 = omega arith in
    replicate_suc x n ∙ ap (λ k. replicate k x) same

length_replicate : {A : Type 0} (x : A) (n : ℕ) → length (replicate n x) ≡ n
length_replicate x zero = refl
length_replicate x (suc n) = ap suc (length_replicate x n)

none_known : (n m : ℕ) (v : Value) → slice_get (replicate n None) m ≡ Some (Some v) → ⊥
none_known zero m v h = cc
none_known (suc n) zero v h = cc
none_known (suc n) (suc m) v h = none_known n m v h

none_waits : (n m : ℕ) (x : Waiter) → Has (list_at (replicate n []) m) x → ⊥
none_waits zero m x h = cc (h.1)
none_waits (suc n) zero x h = cc (h.1)
none_waits (suc n) (suc m) x h = none_waits n m x h

pub sound_at_first : (worth : Worth) (n : ℕ) → IsSound worth (replicate n None)
sound_at_first worth n = record { good = λ m v h. absurd (none_known n m v h); right = λ m v h. absurd (none_known n m v h) }

pub orderly_at_first : (ids : List (List ℕ)) (n : ℕ) → n ≡ length ids → IsOrderly ids (replicate n None) (replicate n []) []
orderly_at_first ids n e =
    record {
      values = length_replicate None n ∙ e;
      lists = length_replicate [] n ∙ e;
      ahead = λ m x h. absurd (none_waits n m x h);
      finds = λ m h. cc (h.1);
    }

pub first_state : (worth : Worth) (ids : List (List ℕ)) (n : ℕ) (s : State) → n ≡ length ids → s.values ≡ replicate n None → s.waiting ≡ replicate n [] → s.found ≡ [] → IsSound worth s.values × Orderly ids s
first_state worth ids n s e p q r =
    let P : List (Option Value) → Type 0 = IsSound worth in
    let A : List (Option Value) → Type 0 = λ l. IsOrderly ids l (replicate n []) [] in
    let B : List (List Waiter) → Type 0 = λ l. IsOrderly ids s.values l [] in
    let C : List ℕ → Type 0 = λ l. IsOrderly ids s.values s.waiting l in
    (subst P (sym p) (sound_at_first worth n), subst C (sym r) (subst B (sym q) (subst A (sym p) (orderly_at_first ids n e))))

pub placed_next : (worth : Worth) (ids : List (List ℕ)) (i : ℕ) (old new : State) → ((n : ℕ) → n < i → Places worth ids old n) → IsStep worth ids old new → Places worth ids new i → (n : ℕ) → n < i + 1 → Places worth ids new n
placed_next worth ids i old new before step last n less =
    elim (same_or_not n i) [
      | inl same ↦ subst (λ (k : ℕ). Places worth ids new k) (sym same) last
      | inr other ↦ let earlier : n < i = omega arith in step.kept n (before n earlier)
    ]
