-- Entries that are put behind others.
use Rattle.std.proofs.Common.{◌≡◌, ◌∙◌, ◌+◌, ◌<◌, ◌≤◌, sym, ap, subst, refl, ℕ, zero, suc, length, map, take, get_or, slice_get, List, [], ◌∷◌, ◌++◌, Option, Some, Result, append_assoc, arith, inl, inr}
use Rattle.std.proofs.lemmas.List.{map-append, append-nil, take_more, take_all, length_push}
use Rattle.std.proofs.lemmas.List.Elements.{All-push, All-nil}
use Rattle.std.specs.List.{All}
use Rattle.std.proofs.lemmas.Option.{slice_get_within}
use Rattle.std.proofs.lemmas.Bool.{cases_lt}
use Rattle.bcj_tables_rules.specs.declared.records.ClassRecord.{ClassRecord}
use Rattle.bcj_hier_rules.specs.declared.link_error.LinkError.{LinkError}
use Rattle.bcj_hier_rules.specs.Shapes.{Named}
use Rattle.bcj_layout_rules.specs.Rows.{Classes}
use Rattle.bcj_layout_entries.specs.declared.entries.Entry.{Entry}
use Rattle.bcj_layout_entries.specs.Entries.{named_class, IsAmong}
use Rattle.bcj_layout_entries.specs.Listed.{IsEntry, AreBehind}

abbrev Words : Type 0
Words = List (Result ℕ LinkError)

abbrev Names : Type 0
Names = List (Option Named)

-- none behind
pub behind-none : (cs : Classes) (es : List Entry) → AreBehind cs [] [] es es
behind-none cs es = record { all_words = sym (append-nil _); all_classes = sym (append-nil _); among = λ h. h }

-- one more in a list of what is made of entries
one-more : {A B : Type 0} (f : A → B) (first : List B) (xs next : List A) (x : A) (ws : List B) (w : B) → map f xs ≡ first ++ ws → next ≡ xs ++ x ∷ [] → f x ≡ w → map f next ≡ first ++ (ws ++ w ∷ [])
one-more f first xs next x ws w e is at =
    ap (map f) is ∙ (map-append f xs (x ∷ []) ∙ ((λ i. e i ++ at i ∷ []) ∙ append_assoc first ws (w ∷ [])))

-- the elements up to an index and the next one
next-of : {A B : Type 0} (f : A → B) (xs : List A) (i : ℕ) (x : A) → i < length xs → x ≡ get_or xs i x → map f (take i xs) ++ f x ∷ [] ≡ map f (take (i + 1) xs)
next-of f xs i x inside is =
    ap (λ y. map f (take i xs) ++ f y ∷ []) is ∙ (sym (map-append f (take i xs) (get_or xs i x ∷ [])) ∙ sym (ap (map f) (take_more xs i x inside)))

-- one entry more, by the element of a table that it is made of
pub behind-more : {A : Type 0} (cs : Classes) (f : A → Result ℕ LinkError) (g : A → Option Named) (xs : List A) (i : ℕ) (x : A) (before now next : List Entry) (e : Entry) → i < length xs → x ≡ get_or xs i x
    → AreBehind cs (map f (take i xs)) (map g (take i xs)) before now → IsEntry cs (f x) (g x) e → next ≡ now ++ e ∷ [] → AreBehind cs (map f (take (i + 1) xs)) (map g (take (i + 1) xs)) before next
behind-more cs f g xs i x before now next e inside read h is pushed = record {
  all_words = one-more (λ d. d.word) (map (λ d. d.word) before) now next e (map f (take i xs)) (f x) h.all_words pushed is.is_word
      ∙ ap (λ l. map (λ d. d.word) before ++ l) (next-of f xs i x inside read);
  all_classes = one-more (named_class cs) (map (named_class cs) before) now next e (map g (take i xs)) (g x) h.all_classes pushed is.is_class
      ∙ ap (λ l. map (named_class cs) before ++ l) (next-of g xs i x inside read);
  among = λ all. subst (All (IsAmong cs)) (sym pushed) (All-push (IsAmong cs) now e (h.among all) is.among);
}

-- at the end of a table all are there
pub behind-all : {A : Type 0} (cs : Classes) (f : A → Result ℕ LinkError) (g : A → Option Named) (xs : List A) (i : ℕ) (before after : List Entry) → length xs ≤ i
    → AreBehind cs (map f (take i xs)) (map g (take i xs)) before after → AreBehind cs (map f xs) (map g xs) before after
behind-all {A} cs f g xs i before after past h =
    let P : List A → Type 0 = λ l. AreBehind cs (map f l) (map g l) before after in
    subst P (take_all i xs past) h

-- what holds of each class and its entries holds with one more
pub each-more : (cs : Classes) (P : ClassRecord → List Entry → Type 0) (all next : List (List Entry)) (k : ℕ) (es : List Entry) → length all ≡ k
    → ((i : ℕ) (c : ClassRecord) (fs : List Entry) → slice_get cs i ≡ Some c → slice_get all i ≡ Some fs → P c fs) → ((c : ClassRecord) → slice_get cs k ≡ Some c → P c es) → next ≡ all ++ es ∷ []
    → (i : ℕ) (c : ClassRecord) (fs : List Entry) → slice_get cs i ≡ Some c → slice_get next i ≡ Some fs → P c fs
each-more cs P all next k es count each new pushed i c fs e at =
    let there : slice_get (all ++ es ∷ []) i ≡ Some fs = sym (ap (λ l. slice_get l i) pushed) ∙ at in
    elim (cases_lt i (length all)) [
      | inl old ↦ each i c fs e (sym (slice_get-before all (es ∷ []) i old) ∙ there)
      | inr past ↦
          let inside : i < length all + 1 = subst (λ (n : ℕ). i < n) (length_push all es) (slice_get_within (all ++ es ∷ []) i fs there) in
          let at_it : i ≡ k = omega (arith, count, inside, past) in
          let last : Some es ≡ Some fs = sym (slice_get-last all es) ∙ (ap (slice_get (all ++ es ∷ [])) (count ∙ sym at_it) ∙ there) in
          let same : es ≡ fs = cc in
          let Q : List Entry → Type 0 = λ gs. P c gs in
          subst Q same (new c (ap (slice_get cs) (sym at_it) ∙ e))
    ]
  where
    slice_get-before : {X : Type 0} (xs ys : List X) (i : ℕ) → i < length xs → slice_get (xs ++ ys) i ≡ slice_get xs i
    slice_get-before [] ys i h = absurd (omega arith)
    slice_get-before (x ∷ xs) ys zero h = refl
    slice_get-before (x ∷ xs) ys (suc i) h = slice_get-before xs ys i (omega arith)

    slice_get-last : {X : Type 0} (xs : List X) (y : X) → slice_get (xs ++ y ∷ []) (length xs) ≡ Some y
    slice_get-last [] y = refl
    slice_get-last (x ∷ xs) y = slice_get-last xs y

-- four parts, one behind another
four : {X : Type 0} (a b c d w0 w1 w2 w3 w4 : List X) → w0 ≡ [] → w1 ≡ w0 ++ a → w2 ≡ w1 ++ b → w3 ≡ w2 ++ c → w4 ≡ w3 ++ d → w4 ≡ a ++ (b ++ (c ++ d))
four a b c d w0 w1 w2 w3 w4 e0 e1 e2 e3 e4 =
    e4
    ∙ (ap (λ l. l ++ d) (e3 ∙ ap (λ l. l ++ c) (e2 ∙ ap (λ l. l ++ b) (e1 ∙ ap (λ l. l ++ a) e0)))
    ∙ (append_assoc (a ++ b) c d ∙ append_assoc a b (c ++ d)))

module _ (cs : Classes) (a b c d : Words) (an bn cn dn : Names) (e0 e1 e2 e3 e4 : List Entry) (none : e0 ≡ []) (first : AreBehind cs a an e0 e1) (second : AreBehind cs b bn e1 e2) (third : AreBehind cs c cn e2 e3)
    (fourth : AreBehind cs d dn e3 e4) where
  -- the words of four tables
  pub four-words : map (λ e. e.word) e4 ≡ a ++ (b ++ (c ++ d))
  four-words =
      four a b c d (map (λ e. e.word) e0) (map (λ e. e.word) e1) (map (λ e. e.word) e2) (map (λ e. e.word) e3) (map (λ e. e.word) e4) (ap (map (λ e. e.word)) none) first.all_words second.all_words third.all_words
      fourth.all_words

  -- and their classes
  pub four-classes : map (named_class cs) e4 ≡ an ++ (bn ++ (cn ++ dn))
  four-classes =
      four an bn cn dn (map (named_class cs) e0) (map (named_class cs) e1) (map (named_class cs) e2) (map (named_class cs) e3) (map (named_class cs) e4) (ap (map (named_class cs)) none) first.all_classes
      second.all_classes third.all_classes fourth.all_classes

  -- all of which are among the classes
  pub four-among : All (IsAmong cs) e4
  four-among = fourth.among (third.among (second.among (first.among (subst (All (IsAmong cs)) (sym none) (All-nil (IsAmong cs))))))
