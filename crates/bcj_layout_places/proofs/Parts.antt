-- Places one behind the other.
use Rattle.std.proofs.Common.{◌≡◌, ◌<◌, ◌≤◌, ℕ, zero, suc, ◌+◌, ◌*◌, List, [], ◌∷◌, ◌++◌, map, length, take, sum, get_or, Some, refl, sym, ◌∙◌, ap, subst, below_more, arith, add-one}
use Rattle.std.proofs.Math.Seq.{take-length}
use Rattle.std.proofs.lemmas.List.{length_push, length-map, take-map, take_all}
use Rattle.std.proofs.lemmas.List.Sums.{sum_by_more}
use Rattle.std.proofs.lemmas.Option.{slice_get_within, get_or_from_slice_get, slice_get-map}
use Rattle.std.specs.List.{slice_get}
use Rattle.std.specs.Option.{option_map}
use Rattle.bcj_layout_rules.specs.Places.{word_size}
use Rattle.bcj_layout_places.specs.declared.part.Part.{Part}
use Rattle.bcj_layout_places.specs.Parts.{IsPart, AreDispatchRows}

-- ---- lists that grow at their end

-- what stands there stays
there-before : {A : Type 0} (xs ys : List A) (k : ℕ) → k < length xs → slice_get (xs ++ ys) k ≡ slice_get xs k
there-before [] ys k h = absurd (omega arith)
there-before (x ∷ xs) ys zero h = refl
there-before (x ∷ xs) ys (suc k) h = there-before xs ys k (omega arith)

-- and the new one stands behind
there-behind : {A : Type 0} (xs : List A) (y : A) → slice_get (xs ++ y ∷ []) (length xs) ≡ Some y
there-behind [] y = refl
there-behind (x ∷ xs) y = there-behind xs y

-- at their number
behind-all : {A : Type 0} (xs new : List A) (y : A) (n : ℕ) → length xs ≡ n → new ≡ xs ++ y ∷ [] → slice_get new n ≡ Some y
behind-all xs new y n count e = ap (λ l. slice_get l n) e ∙ (ap (slice_get (xs ++ y ∷ [])) (sym count) ∙ there-behind xs y)

-- the address behind one more
pub more-behind : (at : ℕ) (sizes : List ℕ) (n next new : ℕ) → n < length sizes → next ≡ at + word_size * sum (take n sizes) → new ≡ next + word_size * get_or sizes n 0
    → new ≡ at + word_size * sum (take (n + 1) sizes)
more-behind at sizes n next new h here e =
    let step : sum (take (n + 1) sizes) ≡ sum (take n sizes) + get_or sizes n 0 = sum_by_more (λ x. x) sizes n 0 h in
    omega arith

-- ---- members

-- the places of the first members
pub record AreFirst (at : ℕ) (sizes : List ℕ) (n : ℕ) (places : List ℕ) : Type 0 where
  pub count : length places ≡ n
  pub each : (k : ℕ) → k < n → slice_get places k ≡ Some (at + word_size * sum (take k sizes))

-- of one more
pub one-placed : (at : ℕ) (sizes : List ℕ) (n : ℕ) (places new : List ℕ) (next : ℕ) → AreFirst at sizes n places → next ≡ at + word_size * sum (take n sizes) → new ≡ places ++ next ∷ []
    → AreFirst at sizes (n + 1) new
one-placed at sizes n places new next first here e = record {
  count = ap length e ∙ (length_push places next ∙ ap (λ m. m + 1) first.count);
  each = below_more (λ k. slice_get new k ≡ Some (at + word_size * sum (take k sizes))) n
      (λ k h. ap (λ ps. slice_get ps k) e ∙ (there-before places (next ∷ []) k (omega (arith, first.count)) ∙ first.each k h))
      (behind-all places new next n first.count e ∙ ap Some here);
}

-- all of them, with one more place behind
pub all-placed : (at : ℕ) (sizes : List ℕ) (n : ℕ) (p : Part) → n ≡ length sizes → AreFirst at sizes (n + 1) p.places → p.next ≡ at + word_size * sum (take n sizes) → IsPart at sizes p
all-placed at sizes n p all first behind = record {
  count = first.count ∙ (add-one n ∙ ap suc all);
  each = λ k h. first.each k (omega arith);
  behind = behind ∙ ap (λ l. at + word_size * sum l) (take_all n sizes (omega arith));
}

-- ---- dispatch rows

-- the empty one for no words, else its own
abbrev pub row : ℕ → ℕ → ℕ → ℕ
row empty own words = elim words [ zero ↦ empty | suc n ↦ own ]

-- the places of the first rows
pub record AreFirstRows (empty own : ℕ) (sizes : List ℕ) (n : ℕ) (places : List ℕ) : Type 0 where
  pub count : length places ≡ n
  pub each : (k : ℕ) → k < n → (words : ℕ) → slice_get sizes k ≡ Some words → slice_get places k ≡ Some (row empty (own + word_size * sum (take k sizes)) words)

-- of one more
pub one-row : (empty own : ℕ) (sizes : List ℕ) (n : ℕ) (places new : List ℕ) (next place : ℕ) → AreFirstRows empty own sizes n places
    → next ≡ own + word_size * sum (take n sizes) → place ≡ row empty next (get_or sizes n 0) → new ≡ places ++ place ∷ []
    → AreFirstRows empty own sizes (n + 1) new
one-row empty own sizes n places new next place first here is e = record {
  count = ap length e ∙ (length_push places place ∙ ap (λ m. m + 1) first.count);
  each = below_more (λ k. (words : ℕ) → slice_get sizes k ≡ Some words → slice_get new k ≡ Some (row empty (own + word_size * sum (take k sizes)) words)) n
      (λ k h words there. ap (λ ps. slice_get ps k) e ∙ (there-before places (place ∷ []) k (omega (arith, first.count)) ∙ first.each k h words there))
      (λ words there. behind-all places new place n first.count e ∙ ap Some (is ∙ λ i. row empty (here i) (get_or_from_slice_get sizes n words 0 there i)));
}

-- all of them
pub all-rows : (empty own : ℕ) (sizes : List ℕ) (n : ℕ) (p : Part) → n ≡ length sizes → AreFirstRows empty own sizes n p.places → p.next ≡ own + word_size * sum (take n sizes)
    → AreDispatchRows empty own sizes p
all-rows empty own sizes n p all first behind = record {
  count = first.count ∙ all;
  each = λ k words there.
      let within : k < length sizes = slice_get_within sizes k words there in
      first.each k (omega arith) words there;
  behind = behind ∙ ap (λ l. own + word_size * sum l) (take_all n sizes (omega arith));
}

-- ---- members of a list

-- members of so many words each, from an address on
pub record Lie {A : Type 0} (words : A → ℕ) (xs : List A) (at : ℕ) (p : Part) : Type 0 where
  pub count : length p.places ≡ suc (length xs)
  pub each : (k : ℕ) → k ≤ length xs → slice_get p.places k ≡ Some (at + word_size * sum (map words (take k xs)))
  pub behind : p.next ≡ at + word_size * sum (map words (take (length xs) xs))

-- as a part of their words
pub part-lies : {A : Type 0} (words : A → ℕ) (xs : List A) (at from : ℕ) (sizes : List ℕ) (p : Part) → from ≡ at → sizes ≡ map words xs → IsPart from sizes p → Lie words xs at p
part-lies words xs at from sizes p here same part =
    let P : ℕ → Type 0 = λ n. IsPart n sizes p in
    let Q : List ℕ → Type 0 = λ l. IsPart at l p in
    let whole : IsPart at (map words xs) p = subst Q same (subst P here part) in
    record {
      count = whole.count ∙ ap suc (length-map xs words);
      each = λ k h. whole.each k (omega (arith, length-map xs words)) ∙ ap (λ l. Some (at + word_size * sum l)) (take-map words k xs);
      behind = whole.behind ∙ ap (λ l. at + word_size * sum (map words l)) (sym (take-length xs));
    }

-- ---- behind so many words

-- all at once
behind-first : (at first words : ℕ) → at + word_size * first + word_size * words ≡ at + word_size * (first + words)
behind-first at first words = omega arith

-- members behind so many words from an address on
pub record LieBehind {A : Type 0} (words : A → ℕ) (xs : List A) (at first : ℕ) (p : Part) : Type 0 where
  pub count : length p.places ≡ suc (length xs)
  pub each : (k : ℕ) → k ≤ length xs → slice_get p.places k ≡ Some (at + word_size * (first + sum (map words (take k xs))))
  pub behind : p.next ≡ at + word_size * (first + sum (map words (take (length xs) xs)))

-- as members from the address behind these
pub lies-behind : {A : Type 0} (words : A → ℕ) (xs : List A) (at first : ℕ) (p : Part) → Lie words xs (at + word_size * first) p → LieBehind words xs at first p
lies-behind words xs at first p lie = record {
  count = lie.count;
  each = λ k h. lie.each k h ∙ ap Some (behind-first at first (sum (map words (take k xs))));
  behind = lie.behind ∙ behind-first at first (sum (map words (take (length xs) xs)));
}

-- own dispatch rows behind an empty one, which stands for those of no words
pub record RowsLie {A : Type 0} (words : A → ℕ) (xs : List A) (at first : ℕ) (p : Part) : Type 0 where
  pub count : length p.places ≡ length xs
  pub each : (k : ℕ) (x : A) → slice_get xs k ≡ Some x → slice_get p.places k ≡ Some (row at (at + word_size * (first + sum (map words (take k xs)))) (words x))
  pub behind : p.next ≡ at + word_size * (first + sum (map words (take (length xs) xs)))

-- as rows of their words
pub rows-lie : {A : Type 0} (words : A → ℕ) (xs : List A) (at first from : ℕ) (sizes : List ℕ) (p : Part) → from ≡ at → sizes ≡ map words xs
    → AreDispatchRows from (from + word_size * first) sizes p → RowsLie words xs at first p
rows-lie words xs at first from sizes p here same rows =
    let P : ℕ → Type 0 = λ n. AreDispatchRows n (n + word_size * first) sizes p in
    let Q : List ℕ → Type 0 = λ l. AreDispatchRows at (at + word_size * first) l p in
    let whole : AreDispatchRows at (at + word_size * first) (map words xs) p = subst Q same (subst P here rows) in
    record {
      count = whole.count ∙ length-map xs words;
      each = λ k x there. whole.each k (words x) (slice_get-map words xs k ∙ ap (option_map words) there)
          ∙ ap (λ n. Some (row at n (words x))) (ap (λ l. at + word_size * first + word_size * sum l) (take-map words k xs) ∙ behind-first at first (sum (map words (take k xs))));
      behind = whole.behind
          ∙ (ap (λ l. at + word_size * first + word_size * sum (map words l)) (sym (take-length xs)) ∙ behind-first at first (sum (map words (take (length xs) xs))));
    }
