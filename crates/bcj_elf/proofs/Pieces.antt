-- Parts of a file, and the fields that stand in them.
use Rattle.std.proofs.Common.{◌≡◌, ℕ, ◌+◌, ◌<◌, ◌≤◌, ◌^◌, List, [], ◌∷◌, ◌++◌, length, take, drop, get_or, refl, sym, ap, ◌∙◌, inl, inr, arith, length-drop}
use Rattle.std.specs.Int.{w16, from_le_bytes}
use Rattle.std.proofs.Math.Seq.{take-add}
use Rattle.std.proofs.lemmas.Bool.{cases_lt}
use Rattle.std.proofs.lemmas.List.{take-append-drop, drop-drop, length-take-le, get_or-take, get_or-drop, get_or_past, length-take, drop_more}
use Rattle.std.proofs.lemmas.Nat.{le_bytes_2, le_bytes_4}
use Rattle.bcj_elf.specs.Elf.{half_size, word_size}
use Rattle.bcj_elf.specs.Rules.{word_at}
use Rattle.bcj_elf.specs.Spelling.{word, half}
use Rattle.bcj_elf.specs.Places.{part}

-- Its items are bytes.
pub record AreBytes (bytes : List ℕ) : Type 0 where
  pub below : (i : ℕ) → get_or bytes i 0 < 256

pub part_length : (bytes : List ℕ) (at n : ℕ) → at + n ≤ length bytes → length (part bytes at n) ≡ n
part_length bytes at n le = length-take-le n (drop at bytes) (omega (arith, length-drop at bytes))

pub part_joined : (bytes : List ℕ) (at n m : ℕ) → part bytes at (n + m) ≡ part bytes at n ++ part bytes (at + n) m
part_joined bytes at n m = take-add n m (drop at bytes) ∙ ap (λ (z : List ℕ). part bytes at n ++ take m z) (drop-drop n at bytes)

-- A part in front of what stands behind it.
pub put_before : (bytes x rest : List ℕ) (at n : ℕ) → x ≡ part bytes at n → rest ≡ drop (at + n) bytes → x ++ rest ≡ drop at bytes
put_before bytes x rest at n here behind = rw (here, behind, ← drop-drop n at bytes) (take-append-drop n (drop at bytes))

part_bytes : (bytes : List ℕ) (at n : ℕ) → AreBytes bytes → (i : ℕ) → get_or (part bytes at n) i 0 < 256
part_bytes bytes at n small i = elim (cases_lt i n) [
  | inl lt ↦ rw (get_or-take n (drop at bytes) i 0 lt, get_or-drop at bytes i 0) (small.below (at + i))
  | inr le ↦ let e : get_or (part bytes at n) i 0 ≡ 0 = get_or_past (part bytes at n) i 0 (omega (arith, length-take n (drop at bytes))) in omega arith
]

pub word_part : (bytes : List ℕ) (at : ℕ) → AreBytes bytes → at + word_size ≤ length bytes → part bytes at word_size ≡ word (word_at at bytes)
unfolding word
word_part bytes at small le = sym (le_bytes_4 (part bytes at word_size) (word_at at bytes) (part_length bytes at word_size le) (part_bytes bytes at word_size small) refl)

pub half_part : (bytes : List ℕ) (at : ℕ) → AreBytes bytes → at + half_size ≤ length bytes → part bytes at half_size ≡ half (from_le_bytes w16 (take half_size (drop at bytes)))
unfolding half
half_part bytes at small le =
    sym (le_bytes_2 (part bytes at half_size) (from_le_bytes w16 (take half_size (drop at bytes))) (part_length bytes at half_size le) (part_bytes bytes at half_size small) refl)

pub byte_part : (bytes : List ℕ) (at : ℕ) → at + 1 ≤ length bytes → part bytes at 1 ≡ get_or bytes at 0 ∷ []
byte_part bytes at le = rw (drop_more bytes at 0 (omega arith)) refl

pub word_small : (bytes : List ℕ) (at : ℕ) → AreBytes bytes → word_at at bytes < 2 ^ 32
word_small bytes at small =
    let b0 = part_bytes bytes at word_size small 0 in
    let b1 = part_bytes bytes at word_size small 1 in
    let b2 = part_bytes bytes at word_size small 2 in
    let b3 = part_bytes bytes at word_size small 3 in
    omega arith

-- ---- pieces that follow one another, each with its bytes

abbrev pub joined : List (ℕ × List ℕ) → List ℕ
joined [] = []
joined (p ∷ ps) = p.1 ++ joined ps

abbrev pub total : List (ℕ × List ℕ) → ℕ
total [] = 0
total (p ∷ ps) = p.0 + total ps

-- each piece stands behind the one before
abbrev pub Stand : List ℕ → ℕ → List (ℕ × List ℕ) → Type 0
Stand bytes at [] = Unit {0}
Stand bytes at (p ∷ ps) = (part bytes at p.0 ≡ p.1) × Stand bytes (at + p.0) ps

pub they_stand : (bytes : List ℕ) (at : ℕ) (ps : List (ℕ × List ℕ)) → Stand bytes at ps → part bytes at (total ps) ≡ joined ps
they_stand bytes at [] h = refl
they_stand bytes at (p ∷ ps) h =
    part_joined bytes at p.0 (total ps) ∙ ap (λ (z : List ℕ). z ++ part bytes (at + p.0) (total ps)) h.0 ∙ ap (λ (z : List ℕ). p.1 ++ z) (they_stand bytes (at + p.0) ps h.1)
