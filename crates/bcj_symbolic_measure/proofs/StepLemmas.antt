-- Counts, sums and maxima over a list, one item after the other.
use Rattle.std.proofs.Common.{◌≡◌, ap, sym, ◌∙◌, ℕ, ◌+◌, ◌<◌, ◌≤◌, List, [], ◌∷◌, ◌++◌, drop, length, get_or, map, arith}
use Rattle.std.proofs.lemmas.List.{drop_more}
use Rattle.std.proofs.lemmas.Grind.{common_steps}
use Rattle.bcj_symbolic_trees.specs.declared.class_tree.SymClass.{SymClass}
use Rattle.bcj_symbolic_trees.specs.Units.{class_of}
use Rattle.bcj_symbolic_measure.specs.declared.object.Sums.{Sums}
use Rattle.bcj_symbolic_measure.specs.function.Sums.{with_class, with_classes}
use Rattle.bcj_symbolic_measure.specs.Totals.{capped, plus, larger}
use Rattle.bcj_symbolic_measure.specs.Scheme.{Piece}
use Rattle.bcj_symbolic_measure.specs.function.Counts.{Counts, noted}
use Rattle.bcj_symbolic_measure.proofs.TotalLemmas.{plus-nothing, larger-right, larger-three, larger-none, larger-first}
use Rattle.bcj_symbolic_measure.proofs.CountLemmas.{noted-nil, noted-append}

pub drops_all : {X : Type 0} (xs : List X) (i : ℕ) → length xs ≤ i → drop i xs ≡ []
drops_all xs i h = grind (arith, common_steps)

pub pieces_more : {X : Type 0} (M : List X → List Piece) (m : X → List Piece) → ((x : X) (xs : List X) → M (x ∷ xs) ≡ m x ++ M xs)
    → (w v u : Counts) (xs : List X) (i : ℕ) (d : X) → i < length xs → d ≡ get_or xs i d → v ≡ noted w (m d) → noted w (M (drop i xs)) ≡ u
    → noted v (M (drop (i + 1) xs)) ≡ u
pieces_more {X = X} M m more w v u xs i d h is ev e =
    ap (λ (a : Counts). noted a (M (drop (i + 1) xs))) ev
    ∙ noted-append w (m d) (M (drop (i + 1) xs))
    ∙ ap (noted w) (sym (more d (drop (i + 1) xs)))
    ∙ ap (λ (x : X). noted w (M (x ∷ drop (i + 1) xs))) is
    ∙ ap (λ (l : List X). noted w (M l)) (sym (drop_more xs i d h))
    ∙ e

pub pieces_done : {X : Type 0} (M : List X → List Piece) → M [] ≡ [] → (w u : Counts) (xs : List X) (i : ℕ) → length xs ≤ i → noted w (M (drop i xs)) ≡ u → w ≡ u
pieces_done {X = X} M none w u xs i h e =
    sym (noted-nil w) ∙ ap (noted w) (sym none) ∙ ap (λ (l : List X). noted w (M l)) (sym (drops_all xs i h)) ∙ e

pub sum_done : {X : Type 0} (M : List X → ℕ) → M [] ≡ 0 → (s u : ℕ) (xs : List X) (i : ℕ) → length xs ≤ i → capped s ≡ s → plus s (M (drop i xs)) ≡ u → s ≡ u
sum_done {X = X} M none s u xs i h f e =
    sym f ∙ plus-nothing s ∙ ap (plus s) (sym none) ∙ ap (λ (l : List X). plus s (M l)) (sym (drops_all xs i h)) ∙ e

one-more : (s m r : ℕ) → capped (larger (capped (larger s (capped m))) r) ≡ capped (larger s (larger m r))
one-more s m r =
    ap (λ k. capped (larger k r)) (larger-right s m) ∙ larger-three s m r

pub depth_more : {X : Type 0} (M : List X → ℕ) (m : X → ℕ) → ((x : X) (xs : List X) → M (x ∷ xs) ≡ larger (m x) (M xs))
    → (s v p u : ℕ) (xs : List X) (i : ℕ) (d : X) → i < length xs → d ≡ get_or xs i d → p ≡ capped (m d) → v ≡ capped (larger s p) → capped (larger s (M (drop i xs))) ≡ u
    → capped (larger v (M (drop (i + 1) xs))) ≡ u
depth_more {X = X} M m more s v p u xs i d h is ep ev e =
    ap (λ k. capped (larger k (M (drop (i + 1) xs)))) (ev ∙ ap (λ k. capped (larger s k)) ep)
    ∙ one-more s (m d) (M (drop (i + 1) xs))
    ∙ ap (λ k. capped (larger s k)) (sym (more d (drop (i + 1) xs)))
    ∙ ap (λ (x : X). capped (larger s (M (x ∷ drop (i + 1) xs)))) is
    ∙ ap (λ (l : List X). capped (larger s (M l))) (sym (drop_more xs i d h))
    ∙ e

pub depth_done : {X : Type 0} (M : List X → ℕ) → M [] ≡ 0 → (s u : ℕ) (xs : List X) (i : ℕ) → length xs ≤ i → capped s ≡ s → capped (larger s (M (drop i xs))) ≡ u → s ≡ u
depth_done {X = X} M none s u xs i h f e =
    sym f ∙ ap capped (sym (larger-none s)) ∙ ap (λ k. capped (larger s k)) (sym none) ∙ ap (λ (l : List X). capped (larger s (M l))) (sym (drops_all xs i h)) ∙ e

pub depth_begin : (n : ℕ) → capped (larger 0 n) ≡ capped n
depth_begin n = ap capped (larger-first n)

pub classes_more : (s v u : Sums) (xs : List SymClass) (i : ℕ) (d : SymClass) → i < length xs → d ≡ get_or xs i d → v ≡ with_class s (class_of d)
    → with_classes s (map class_of (drop i xs)) ≡ u → with_classes v (map class_of (drop (i + 1) xs)) ≡ u
unfolding with_classes
classes_more s v u xs i d h is ev e =
    ap (λ (k : Sums). with_classes k (map class_of (drop (i + 1) xs))) ev
    ∙ ap (λ (x : SymClass). with_classes s (map class_of (x ∷ drop (i + 1) xs))) is
    ∙ ap (λ (l : List SymClass). with_classes s (map class_of l)) (sym (drop_more xs i d h))
    ∙ e

pub classes_done : (s u : Sums) (xs : List SymClass) (i : ℕ) → length xs ≤ i → with_classes s (map class_of (drop i xs)) ≡ u → s ≡ u
unfolding with_classes
classes_done s u xs i h e = ap (λ (l : List SymClass). with_classes s (map class_of l)) (sym (drops_all xs i h)) ∙ e
