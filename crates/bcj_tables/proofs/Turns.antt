-- The loops that read lists: one turn, the end, and what stops them.
use Rattle.std.proofs.Common.{◌≡◌, ℕ, suc, ◌+◌, ◌-◌, ◌<◌, ◌≤◌, List, [], ◌∷◌, ◌++◌, sym, ap, subst, ◌∙◌, refl, Ok, Err, Result, arith}
use Rattle.std.specs.Result.{IsErrAnd}
use Rattle.bcj_tables_rules.specs.declared.stop.Stop.{Stop}
use Rattle.bcj_tables_rules.specs.declared.stop.Stop.TheVariants.{Bad, NoMemory}
use Rattle.bcj_tables_rules.specs.Steps.{Outcome, Reads}
use Rattle.bcj_tables_rules.specs.Format.{Format, reads_items}

fewer : (n at : ℕ) → at < n → n - at ≡ suc (n - (at + 1))
fewer n at h = omega arith

-- what stops a part stops the whole
pub reads_refused : {A B C D : Type 0} (view : A → B) (view' : C → D) (o : Outcome B) (p : Outcome D) (e : Stop) (a : List ℕ) → Reads view o (Err e) a → ((x : Stop) → o ≡ (Err x, a) → p ≡ (Err x, a)) → Reads view' p (Err e) a
reads_refused view view' o p Bad a h f = f Bad h
reads_refused view view' o p NoMemory a h f = tt

pub reads_passed : {A B C D : Type 0} (view : A → B) (view' : C → D) (o : Outcome B) (p : Outcome D) (r : Result C Stop) (e : Stop) (a : List ℕ) → IsErrAnd r (λ y. y ≡ e) → Reads view o (Err e) a → ((x : Stop) → o ≡ (Err x, a) → p ≡ (Err x, a)) → Reads view' p r a
reads_passed view view' o p (Ok x) e a g h f = absurd g
reads_passed view view' o p (Err y) e a g h f = subst (λ y. Reads view' p (Err y) a) (sym g) (reads_refused view view' o p e a h f)

-- a further item
pub items_turn : {A : Type 0} (one : List A → Format A) (X : Outcome (List A)) (n at : ℕ) (found more : List A) (x : A) (i a : List ℕ) → at < n
    → X ≡ reads_items one (n - at) found i → (one found).reads i ≡ (Ok x, a) → more ≡ found ++ x ∷ [] → X ≡ reads_items one (n - (at + 1)) more a
unfolding reads_items
items_turn {A = A} one X n at found more x i a b e o f = e ∙ (ap (λ k. reads_items one k found i) (fewer n at b) ∙ (step (n - (at + 1)) ∙ ap (λ (z : List A). reads_items one (n - (at + 1)) z a) (sym f))) where
  step : (k : ℕ) → reads_items one (suc k) found i ≡ reads_items one k (found ++ x ∷ []) a
  step k = rw o refl

-- an item is refused
pub items_refused : {A : Type 0} (one : List A → Format A) (X : Outcome (List A)) (n at : ℕ) (found : List A) (i a : List ℕ) (e : Stop) → at < n
    → X ≡ reads_items one (n - at) found i → (one found).reads i ≡ (Err e, a) → X ≡ (Err e, a)
unfolding reads_items
items_refused one X n at found i a e b h o = h ∙ (ap (λ k. reads_items one k found i) (fewer n at b) ∙ step (n - (at + 1))) where
  step : (k : ℕ) → reads_items one (suc k) found i ≡ (Err e, a)
  step k = rw o refl

-- no turn is left
pub items_done : {A : Type 0} (one : List A → Format A) (X : Outcome (List A)) (n at : ℕ) (found : List A) (i : List ℕ) → n ≤ at → X ≡ reads_items one (n - at) found i → X ≡ (Ok found, i)
unfolding reads_items
items_done one X n at found i b h = let z : n - at ≡ 0 = omega arith in h ∙ ap (λ k. reads_items one k found i) z
