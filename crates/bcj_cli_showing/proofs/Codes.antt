-- The words of a text section, as a loop goes over them.
use Rattle.std.proofs.Common.{◌≡◌, ℕ, suc, ◌+◌, ◌*◌, ◌-◌, ◌<◌, ◌≤◌, List, [], ◌∷◌, ◌++◌, length, get_or, drop, refl, ap, sym, ◌∙◌, arith, append_assoc, append-nil}
use Rattle.std.proofs.lemmas.List.{length-drop}
use Rattle.std.proofs.Math.Seq.{drop-cons}
use Rattle.std.specs.Int.{w32, from_le_bytes}
use Rattle.bcj_cli_showing.specs.Lines.{word_line}
use Rattle.bcj_cli_showing.specs.Text.{word_lines}

-- a list from an index on is the item there and the list from the next index on
drop_one : (xs : List ℕ) (at next : ℕ) → next ≡ at + 1 → at < length xs → drop at xs ≡ get_or xs at 0 ∷ drop next xs
drop_one xs at next e h =
    let same : suc at ≡ next = omega arith in
    drop-cons xs at 0 h ∙ ap (λ n. get_or xs at 0 ∷ drop n xs) same

-- the bytes of a word
abbrev pub bytes_at : List ℕ → ℕ → List ℕ
bytes_at xs at = get_or xs at 0 ∷ get_or xs (at + 1) 0 ∷ get_or xs (at + 2) 0 ∷ get_or xs (at + 3) 0 ∷ []

drop_word : (xs : List ℕ) (at : ℕ) → at + 4 ≤ length xs → drop at xs ≡ get_or xs at 0 ∷ get_or xs (at + 1) 0 ∷ get_or xs (at + 2) 0 ∷ get_or xs (at + 3) 0 ∷ drop (at + 4) xs
drop_word xs at h =
    drop_one xs at (at + 1) refl (omega arith)
    ∙ ap (λ l. get_or xs at 0 ∷ l) (drop_one xs (at + 1) (at + 2) (omega arith) (omega arith)
    ∙ ap (λ l. get_or xs (at + 1) 0 ∷ l) (drop_one xs (at + 2) (at + 3) (omega arith) (omega arith)
    ∙ ap (λ l. get_or xs (at + 2) 0 ∷ l) (drop_one xs (at + 3) (at + 4) (omega arith) (omega arith))))

-- the words from an offset on are the one there and those behind it
words_here : (xs : List ℕ) (at : ℕ) → at + 4 ≤ length xs → word_lines at (drop at xs) ≡ word_line at (from_le_bytes w32 (bytes_at xs at)) ++ word_lines (at + 4) (drop (at + 4) xs)
unfolding word_lines
words_here xs at h = ap (word_lines at) (drop_word xs at h)

-- fewer bytes than a word have no lines
words_few : (at : ℕ) (xs : List ℕ) → length xs < 4 → word_lines at xs ≡ []
unfolding word_lines
words_few at [] h = refl
words_few at (a ∷ []) h = refl
words_few at (a ∷ b ∷ []) h = refl
words_few at (a ∷ b ∷ c ∷ []) h = refl
words_few at (a ∷ b ∷ c ∷ d ∷ rest) h = absurd (omega arith)

-- what a loop keeps: the lines so far and those to come are all
pub record Shown (start out xs : List ℕ) (index : ℕ) : Type 0 where
  pub all : out ++ word_lines (index * 4) (drop (index * 4) xs) ≡ start ++ word_lines 0 xs

pub shown_start : (start xs : List ℕ) → Shown start start xs 0
shown_start start xs = record { all = refl }

-- one word more
pub shown_more : (start out xs : List ℕ) (index at : ℕ) → at ≡ index * 4 → at + 4 ≤ length xs → Shown start out xs index
    → Shown start (out ++ word_line at (from_le_bytes w32 (bytes_at xs at))) xs (index + 1)
shown_more start out xs index at e h s =
    let P : ℕ → Type 0 = λ n. out ++ word_lines n (drop n xs) ≡ start ++ word_lines 0 xs in
    let next : (index + 1) * 4 ≡ at + 4 = omega arith in
    let line : List ℕ = word_line at (from_le_bytes w32 (bytes_at xs at)) in
    record {
      all = append_assoc out line (word_lines ((index + 1) * 4) (drop ((index + 1) * 4) xs))
          ∙ ap (λ n. out ++ (line ++ word_lines n (drop n xs))) next
          ∙ ap (λ l. out ++ l) (sym (words_here xs at h))
          ∙ ap (λ n. out ++ word_lines n (drop n xs)) e
          ∙ s.all;
    }

-- all words
pub shown_all : (start out xs : List ℕ) (index : ℕ) → length xs < index * 4 + 4 → Shown start out xs index → out ≡ start ++ word_lines 0 xs
shown_all start out xs index h s =
    let left : length (drop (index * 4) xs) ≡ length xs - index * 4 = length-drop (index * 4) xs in
    sym (append-nil out) ∙ ap (λ l. out ++ l) (sym (words_few (index * 4) (drop (index * 4) xs) (omega arith))) ∙ s.all
