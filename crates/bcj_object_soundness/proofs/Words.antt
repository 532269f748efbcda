-- Words as bytes: how many there are, and the word that is read at the place of one. Relocations of words in rising order are in
-- place, each as it is added before the others.
use Rattle.std.proofs.Common.{◌≡◌, refl, ap, sym, ◌∙◌, ℕ, zero, suc, ◌+◌, ◌-◌, ◌*◌, ◌%◌, ◌^◌, ◌<◌, ◌≤◌, ◌==◌, ◌&&◌, nat_le, Bool, true, false, List, [], ◌∷◌, ◌++◌, length, take, drop, arith}
use Rattle.std.specs.List.{flat_map}
use Rattle.std.specs.Int.{w32, from_le_bytes}
use Rattle.std.proofs.lemmas.Bool.{le-leb, eq-eqb}
use Rattle.std.proofs.lemmas.List.{length-append, length-drop, drop-drop, drop_at, drop_all}
use Rattle.std.proofs.lemmas.Nat.{from_le_bytes-to_le_bytes_4}
use Rattle.bcj_elf.specs.declared.object.Section.{Section}
use Rattle.bcj_elf.specs.declared.object.Relocation.{Relocation}
use Rattle.bcj_elf.specs.Elf.{word_size}
use Rattle.bcj_elf.specs.Rules.{word_at, is_clear, is_in_place, is_bound, are_relocations}
use Rattle.bcj_elf.specs.Spelling as elf

pub both : (a b : Bool) → (a && b) ≡ true → (a ≡ true) × (b ≡ true)
both true b h = (refl, h)
both false b h = cc

pub each : {a b : Bool} → a ≡ true → b ≡ true → (a && b) ≡ true
each {a} {b} h k = ap (λ x. x && b) h ∙ k

-- ---- bytes

length-word : (w : ℕ) → length (elf.word w) ≡ 4
unfolding elf.word
length-word w = refl

pub length-words : (ws : List ℕ) → length (flat_map elf.word ws) ≡ 4 * length ws
length-words [] = refl
length-words (w ∷ ws) = omega (arith, length-append (elf.word w) (flat_map elf.word ws), length-word w, length-words ws)

-- four bytes a word
drop-words : (q : ℕ) (ws : List ℕ) → drop (4 * q) (flat_map elf.word ws) ≡ flat_map elf.word (drop q ws)
drop-words zero ws = refl
drop-words (suc q) [] = drop_all (4 * suc q) [] (omega arith)
drop-words (suc q) (w ∷ ws) =
    let bytes : List ℕ = elf.word w ++ flat_map elf.word ws in
    let far : 4 * suc q ≡ 4 + 4 * q = omega arith in
    ap (λ k. drop k bytes) far
    ∙ sym (drop-drop (4 * q) 4 bytes)
    ∙ ap (drop (4 * q)) (drop_at (elf.word w) (flat_map elf.word ws) 4 (length-word w))
    ∙ drop-words q ws

first_read : (w : ℕ) (more : List ℕ) → w < 2 ^ 32 → from_le_bytes w32 (take word_size (elf.word w ++ more)) ≡ w
unfolding elf.word
first_read w more small = from_le_bytes-to_le_bytes_4 w small

-- the word that stands at a place is read there
word_read : (q w : ℕ) (ws behind : List ℕ) → drop q ws ≡ w ∷ behind → w < 2 ^ 32 → word_at (4 * q) (flat_map elf.word ws) ≡ w
word_read q w ws behind stands small =
    ap (λ x. from_le_bytes w32 (take word_size x)) (drop-words q ws ∙ ap (flat_map elf.word) stands) ∙ first_read w (flat_map elf.word behind) small

stands_below : (q w : ℕ) (ws behind : List ℕ) → drop q ws ≡ w ∷ behind → q < length ws
stands_below q w ws behind stands = let len : length ws - q ≡ suc (length behind) = sym (length-drop q ws) ∙ ap length stands in omega arith

-- behind some of the words
pub stands_later : (q n : ℕ) (ws front behind : List ℕ) → drop q ws ≡ front ++ behind → length front ≡ n → drop (q + n) ws ≡ behind
stands_later q n ws front behind stands len = sym (drop-drop n q ws) ∙ ap (drop n) stands ∙ drop_at front behind n len

-- ---- relocations

-- relocations of words from the q-th on are in place
pub record Ready (section : Section) (ws : List ℕ) (symbols q : ℕ) (rs : List Relocation) : Type 0 where
  pub from : (least : ℕ) → least ≤ 4 * q → are_relocations section (flat_map elf.word ws) symbols least rs ≡ true

pub ready-nil : (section : Section) (ws : List ℕ) (symbols q : ℕ) → Ready section ws symbols q []
ready-nil section ws symbols q = record { from = λ least h. refl }

pub ready-later : (section : Section) (ws : List ℕ) (symbols q r : ℕ) (rs : List Relocation) → q ≤ r → Ready section ws symbols r rs → Ready section ws symbols q rs
ready-later section ws symbols q r rs le ready = record { from = λ least h. ready.from least (omega arith) }

in_place : (ws behind : List ℕ) (q w least : ℕ) (r : Relocation) → r.offset ≡ 4 * q → drop q ws ≡ w ∷ behind → w < 2 ^ 32 → is_clear r.kind w ≡ true → least ≤ 4 * q
    → is_in_place (flat_map elf.word ws) least r ≡ true
unfolding is_in_place
in_place ws behind q w least r at stands small clear h =
    let bytes = flat_map elf.word ws in
    let rises : nat_le least r.offset ≡ true = le-leb least r.offset (omega arith) in
    let whole : (r.offset % word_size == 0) ≡ true = eq-eqb (r.offset % word_size) 0 (omega arith) in
    let inside : nat_le (r.offset + word_size) (length bytes) ≡ true = le-leb (r.offset + word_size) (length bytes) (omega (arith, length-words ws, stands_below q w ws behind stands)) in
    let same : word_at r.offset bytes ≡ w = ap (λ k. word_at k bytes) at ∙ word_read q w ws behind stands small in
    each (each (each rises whole) inside) (ap (is_clear r.kind) same ∙ clear)

-- a relocation of the q-th word before others
pub ready-cons : (section : Section) (ws behind : List ℕ) (symbols q w : ℕ) (r : Relocation) (rs : List Relocation) → r.offset ≡ 4 * q → drop q ws ≡ w ∷ behind → w < 2 ^ 32
    → is_clear r.kind w ≡ true → is_bound section symbols r ≡ true → Ready section ws symbols (q + 1) rs → Ready section ws symbols q (r ∷ rs)
ready-cons section ws behind symbols q w r rs at stands small clear bound ready = record {
  from = λ least h. each (each (in_place ws behind q w least r at stands small clear h) bound) (ready.from (r.offset + 1) (omega arith));
}
