-- Walks by steps of any kind between the types of a mixture: each can do without circles, and so within the turns of a search.
use Rattle.std.proofs.Common.{◌≡◌, ◌<◌, ◌≤◌, List, [], ◌∷◌, Some, true, false, ◌⊎◌, sym, ◌∙◌, subst, ℕ, zero, suc, inl, inr, arith}
use Rattle.std.proofs.lemmas.Bool.{cases_Bool, or_from}
use Rattle.std.specs.Str.{bytes_eq}
use Rattle.bcj_hier_rules.specs.Shapes.{Named, Shape, Mixture, found}
use Rattle.bcj_hier_rules.specs.Loading.{turns}
use Rattle.bcj_hier_soundness.proofs.Names.{is_in, same_bytes, in_first}
use Rattle.bcj_hier_soundness.proofs.Turns.{left, left_falls, left_all}

-- steps and ends, each at a type that is there
pub record Kind (m : Mixture) : Type 1 where
  pub Step : Named → Named → Type 0
  pub End : Named → Type 0
  pub step_there : (c p : Named) → Step c p → (s : Shape) × (found m c ≡ Some s)
  pub end_there : (c : Named) → End c → (s : Shape) × (found m c ≡ Some s)

-- a walk by types that were not passed
pub data Walk (m : Mixture) (k : Kind m) (seen : List Named) : Named → Type 0 where
  ends : {c : Named} → is_in c seen ≡ false → k.End c → Walk m k seen c
  goes : {c p : Named} → is_in c seen ≡ false → k.Step c p → Walk m k seen p → Walk m k seen c

-- a walk that never comes back to where it begins
data Onward (m : Mixture) (k : Kind m) (seen : List Named) (a : Named) : Type 0 where
  at_once : k.End a → Onward m k seen a
  behind : {p : Named} → k.Step a p → Walk m k (a ∷ seen) p → Onward m k seen a

-- the last part of a walk, from where it stands at this type for the last time
cut : (m : Mixture) (k : Kind m) (seen : List Named) (a c : Named) → Walk m k seen c → Walk m k (a ∷ seen) c ⊎ Onward m k seen a
cut m k seen a c (ends new e) =
    let P : Named → Type 0 = λ x. k.End x in
    elim (cases_Bool (bytes_eq c a)) [ inl it ↦ inr (at_once (subst P (same_bytes c a it) e)) | inr other ↦ inl (ends (or_from (bytes_eq c a) (is_in c seen) other new) e) ]
cut m k seen a c (goes {p = p} new s w) = cut_step m k seen a c p new s (cut m k seen a p w)
  where
    cut_step : (m : Mixture) (k : Kind m) (seen : List Named) (a c p : Named) → is_in c seen ≡ false → k.Step c p → Walk m k (a ∷ seen) p ⊎ Onward m k seen a → Walk m k (a ∷ seen) c ⊎ Onward m k seen a
    cut_step m k seen a c p new s (inr on) = inr on
    cut_step m k seen a c p new s (inl w) =
        let P : Named → Type 0 = λ x. k.Step x p in
        elim (cases_Bool (bytes_eq c a)) [ inl it ↦ inr (behind (subst P (same_bytes c a it) s) w) | inr other ↦ inl (goes (or_from (bytes_eq c a) (is_in c seen) other new) s w) ]

-- where a walk begins, it has not been
new_there : (m : Mixture) (k : Kind m) (seen : List Named) (c : Named) → Walk m k seen c → is_in c seen ≡ false
new_there m k seen c (ends new e) = new
new_there m k seen c (goes new s w) = new

is_there : (m : Mixture) (k : Kind m) (seen : List Named) (c : Named) → Walk m k seen c → (s : Shape) × (found m c ≡ Some s)
is_there m k seen c (ends new e) = k.end_there c e
is_there m k seen c (goes {p = p} new s w) = k.step_there c p s

no_return : (m : Mixture) (k : Kind m) (seen : List Named) (c : Named) → Walk m k (c ∷ seen) c → ⊥
no_return m k seen c w =
    let wrong : true ≡ false = sym (in_first c seen) ∙ new_there m k (c ∷ seen) c w in
    cc

onward : (m : Mixture) (k : Kind m) (seen : List Named) (c : Named) → Walk m k seen c → Onward m k seen c
onward m k seen c w = elim (cut m k seen c c w) [ inl again ↦ absurd (no_return m k seen c again) | inr on ↦ on ]

-- what finds ends, and goes a step for each turn
pub record Search (m : Mixture) (k : Kind m) : Type 1 where
  pub Finds : ℕ → Named → Type 0
  pub at_end : (n : ℕ) (c : Named) → k.End c → Finds (suc n) c
  pub by_step : (n : ℕ) (c p : Named) → k.Step c p → Finds n p → Finds (suc n) c

abbrev FindsAll : (m : Mixture) (k : Kind m) → Search m k → ℕ → Type 0
FindsAll m k f n = (seen : List Named) (c : Named) → left seen m ≤ n → Walk m k seen c → f.Finds n c

finds_on : (m : Mixture) (k : Kind m) (f : Search m k) (n : ℕ) → FindsAll m k f n → (seen : List Named) (c : Named) → left (c ∷ seen) m ≤ n → Onward m k seen c → f.Finds (suc n) c
finds_on m k f n again seen c few (at_once e) = f.at_end n c e
finds_on m k f n again seen c few (behind {p = p} s w) = f.by_step n c p s (again (c ∷ seen) p few w)

finds : (m : Mixture) (k : Kind m) (f : Search m k) (n : ℕ) → FindsAll m k f n
finds m k f zero seen c few w =
    let t : (s : Shape) × (found m c ≡ Some s) = is_there m k seen c w in
    let falls : left (c ∷ seen) m < left seen m = left_falls c t.0 seen m (new_there m k seen c w) t.1 in
    absurd (omega arith)
finds m k f (suc n) seen c few w =
    let t : (s : Shape) × (found m c ≡ Some s) = is_there m k seen c w in
    let falls : left (c ∷ seen) m < left seen m = left_falls c t.0 seen m (new_there m k seen c w) t.1 in
    finds_on m k f n (finds m k f n) seen c (omega arith) (onward m k seen c w)

-- a search finds by its turns what a walk leads to
pub walk_found : (m : Mixture) (k : Kind m) (f : Search m k) (c : Named) → Walk m k [] c → f.Finds (turns m) c
walk_found m k f c w = finds m k f (turns m) [] c (omega (arith, left_all m)) w
