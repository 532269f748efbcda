-- The dispatch row of a class.
use Rattle.std.proofs.Common.{◌≡◌, ◌≢◌, ◌∙◌, ◌*◌, ◌++◌, ◌∷◌, [], List, ap, sym, ℕ, zero, suc, true, false, cond, map, take, refl}
use Rattle.std.proofs.lemmas.List.{append-nil, take-map}
use Rattle.bcj_hier_rules.specs.Shapes.{Named, Reference}
use Rattle.bcj_hier_rules.specs.Loading.{is_interface}
use Rattle.bcj_layout_rules.specs.Rows.{Classes, mixture_of, highest}
use Rattle.bcj_linker_rules.specs.Memory.{class_dispatch, own_dispatch}
use Rattle.bcj_linker_rows.proofs.ListLemmas.{pushed}

-- its words by their number
abbrev by_words : ℕ → List ℕ → List ℕ
by_words n own = elim n [ zero ↦ [] | suc k ↦ own ]

-- how many they are by the highest selector
abbrev by_highest : ℕ → ℕ
by_highest n = elim n [ zero ↦ 0 | suc k ↦ suc (suc k) ]

-- an interface has none
pub none_of_interface : (cs : Classes) (main class : Named) (words : List ℕ) → is_interface (mixture_of cs) class ≡ true → words ≡ words ++ class_dispatch cs main class
none_of_interface cs main class words it =
    sym (ap (λ ws. words ++ ws) (ap (λ b. by_words (cond b 0 (by_highest (highest cs class))) (own_dispatch cs main class)) it) ∙ append-nil words)

-- and a class that implements the interface of no selector
pub none_of_others : (cs : Classes) (main class : Named) (words : List ℕ) → is_interface (mixture_of cs) class ≡ false → highest cs class ≡ 0 → words ≡ words ++ class_dispatch cs main class
none_of_others cs main class words it none =
    sym (ap (λ ws. words ++ ws)
    (ap (λ b. by_words (cond b 0 (by_highest (highest cs class))) (own_dispatch cs main class)) it ∙ ap (λ n. by_words (by_highest n) (own_dispatch cs main class)) none)
    ∙ append-nil words)

-- any other has its own
pub own_there : (cs : Classes) (main class : Named) (n : ℕ) → is_interface (mixture_of cs) class ≡ false → n ≡ highest cs class → n ≢ 0 → class_dispatch cs main class ≡ own_dispatch cs main class
own_there cs main class n it is some =
    ap (λ b. by_words (cond b 0 (by_highest (highest cs class))) (own_dispatch cs main class)) it ∙ (ap (λ k. by_words (by_highest k) (own_dispatch cs main class)) (sym is) ∙ by n some)
  where
    by : (k : ℕ) → k ≢ 0 → by_words (by_highest k) (own_dispatch cs main class) ≡ own_dispatch cs main class
    by zero h = absurd (h refl)
    by (suc k) h = refl

-- the row once all its words are there
pub own_row : (before between after : List ℕ) (f : Reference → ℕ) (rs : List Reference) (first place n h : ℕ) → first ≡ 4 * n → n ≡ h → place ≡ n → between ≡ before ++ first ∷ [] → after ≡ between ++ take place (map f rs)
    → after ≡ before ++ (4 * h) ∷ map f (take h rs)
own_row before between after f rs first place n h is highest all one more =
    pushed before between after (map f (take h rs)) (4 * h) (one ∙ ap (λ x. before ++ x ∷ []) (is ∙ ap (λ k. 4 * k) highest))
    (more ∙ ap (λ ws. between ++ ws) (ap (λ k. take k (map f rs)) (all ∙ highest) ∙ take-map f h rs))
