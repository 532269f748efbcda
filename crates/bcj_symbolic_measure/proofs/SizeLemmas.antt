-- The frame and the words of a body, each at the last value of a `u32`, and the list of them.
use Rattle.std.proofs.Common.{◌≡◌, ap, sym, ◌∙◌, ℕ, ◌+◌, ◌<◌, ◌≤◌, List, [], ◌∷◌, ◌++◌, drop, length, get_or, map, append_assoc, append-nil}
use Rattle.std.proofs.lemmas.List.{drop_more}
use Rattle.bcj_symbolic_trees.specs.declared.class_tree.SymMethod.{SymMethod}
use Rattle.bcj_symbolic_trees.specs.Units.{PlainClass, method_of}
use Rattle.bcj_symbolic_measure.specs.declared.measured.BodySize.{BodySize}
use Rattle.bcj_symbolic_measure.specs.Totals.{capped, narrow}
use Rattle.bcj_symbolic_measure.specs.Scheme.{Piece}
use Rattle.bcj_symbolic_measure.specs.Bodies.{words}
use Rattle.bcj_symbolic_measure.specs.Measures.{method_size, method_sizes}
use Rattle.bcj_symbolic_measure.specs.function.Counts.{Counts, fresh, noted}
use Rattle.bcj_symbolic_measure.proofs.TotalLemmas.{capped-twice, plus-zero, narrow-like}
use Rattle.bcj_symbolic_measure.proofs.SumLemmas.{noted-words}
use Rattle.bcj_symbolic_measure.proofs.StepLemmas.{drops_all}

abbrev sized : ℕ → ℕ → BodySize
sized frame words_now = record { frame = frame; words = words_now }

-- the size of a body is that of its frame and of its pieces
pub body-sized : (frame words_now f n : ℕ) (k t : Counts) (ps : List Piece) → f ≡ capped n → frame ≡ narrow f → k ≡ fresh → t ≡ noted k ps → words_now ≡ narrow t.words
    → sized frame words_now ≡ sized (narrow n) (narrow (words ps))
body-sized frame words_now f n k t ps ef en ek et ew =
    λ i. record {
      frame = (en ∙ narrow-like f n (ap capped ef ∙ capped-twice n)) i;
      words = (ew ∙ narrow-like t.words (words ps) (ap (λ (x : Counts). capped x.words) (et ∙ ap (λ (x : Counts). noted x ps) ek) ∙ noted-words fresh ps ∙ plus-zero (words ps))) i;
    }

-- the sizes with those of one method more
pub sizes-more : (p : PlainClass) (w r u : List BodySize) (xs : List SymMethod) (i : ℕ) (d : SymMethod) (s : BodySize) → i < length xs → d ≡ get_or xs i d
    → s ≡ method_size p (method_of d) → r ≡ w ++ s ∷ [] → w ++ method_sizes p (map method_of (drop i xs)) ≡ u → r ++ method_sizes p (map method_of (drop (i + 1) xs)) ≡ u
sizes-more p w r u xs i d s h is es er e =
    ap (λ (a : List BodySize). a ++ method_sizes p (map method_of (drop (i + 1) xs))) (er ∙ ap (λ (k : BodySize). w ++ k ∷ []) es)
    ∙ append_assoc w (method_size p (method_of d) ∷ []) (method_sizes p (map method_of (drop (i + 1) xs)))
    ∙ ap (λ (x : SymMethod). w ++ method_sizes p (map method_of (x ∷ drop (i + 1) xs))) is
    ∙ ap (λ (l : List SymMethod). w ++ method_sizes p (map method_of l)) (sym (drop_more xs i d h))
    ∙ e

-- and those of all
pub sizes-done : (p : PlainClass) (w u : List BodySize) (xs : List SymMethod) (i : ℕ) → length xs ≤ i → w ++ method_sizes p (map method_of (drop i xs)) ≡ u → w ≡ u
sizes-done p w u xs i h e =
    sym (append-nil w) ∙ ap (λ (l : List SymMethod). w ++ method_sizes p (map method_of l)) (sym (drops_all xs i h)) ∙ e
