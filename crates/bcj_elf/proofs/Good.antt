-- What is known of a field that is good.
use Rattle.std.proofs.Common.{◌≡◌, ℕ, ◌+◌, ◌<◌, ◌≤◌, ◌^◌, Bool, true, List, length, take, drop, get_or, None, append_assoc, ◌++◌}
use Rattle.std.specs.Prelude.{zip}
use Rattle.std.specs.Int.{w16, from_le_bytes}
use Rattle.std.proofs.lemmas.Bool.{leb-true, eqb-true, ltb-true}
use Rattle.std.proofs.lemmas.Slice.Eq.{bytes_eq-Decides}
use Rattle.bcj_elf.specs.Elf.{half_size, word_size}
use Rattle.bcj_elf.specs.Layout.{section_headers_size, headers_at, headers, name_len, behind_name}
use Rattle.bcj_elf.specs.declared.sizes.SectionHeader.{SectionHeader}
use Rattle.bcj_elf.specs.declared.sizes.Sizes.{Sizes}
use Rattle.bcj_elf.specs.Rules.{word_at}
use Rattle.bcj_elf.specs.Fields.{is_good, first_bad, tested, byte_field, half_field, word_field, text_field}
use Rattle.bcj_elf.specs.Places.{shoff_of, file_header_fields, section_fields, are_sizes, sections_from, section_headers_fields, end_fields, class_name_fields, symbol_fields}
use Rattle.bcj_elf.proofs.Facts.{both}
use Rattle.bcj_elf.proofs.FirstBad.{are_good}

pub record IsWhole (bytes : List ℕ) (at size : ℕ) (P : Type 0) : Type 0 where
  pub room : at + size ≤ length bytes
  pub is : P

pub tested_good : (bytes : List ℕ) (at : ℕ) (name : List ℕ) (is_right : Bool) → is_good bytes (tested at name is_right) ≡ true → IsWhole bytes at word_size (is_right ≡ true)
unfolding tested
tested_good bytes at name is_right h = let p = both _ _ h in record { room = leb-true _ _ p.0; is = p.1 }

pub byte_good : (bytes : List ℕ) (at : ℕ) (name : List ℕ) (n : ℕ) → is_good bytes (byte_field bytes at name n) ≡ true → IsWhole bytes at 1 (get_or bytes at 0 ≡ n)
unfolding byte_field
byte_good bytes at name n h = let p = both _ _ h in record { room = leb-true _ _ p.0; is = eqb-true _ _ p.1 }

pub half_good : (bytes : List ℕ) (at : ℕ) (name : List ℕ) (n : ℕ) → is_good bytes (half_field bytes at name n) ≡ true → IsWhole bytes at half_size (from_le_bytes w16 (take half_size (drop at bytes)) ≡ n)
unfolding half_field
half_good bytes at name n h = let p = both _ _ h in record { room = leb-true _ _ p.0; is = eqb-true _ _ p.1 }

pub word_good : (bytes : List ℕ) (at : ℕ) (name : List ℕ) (n : ℕ) → is_good bytes (word_field bytes at name n) ≡ true → IsWhole bytes at word_size (word_at at bytes ≡ n)
unfolding word_field
word_good bytes at name n h = let p = both _ _ h in record { room = leb-true _ _ p.0; is = eqb-true _ _ p.1 }

pub text_good : (bytes : List ℕ) (at : ℕ) (name text : List ℕ) → is_good bytes (text_field bytes at name text) ≡ true → IsWhole bytes at (length text) (take (length text) (drop at bytes) ≡ text)
unfolding text_field
text_good bytes at name text h = let p = both _ _ h in record { room = leb-true _ _ p.0; is = (bytes_eq-Decides _ _).0 p.1 }

-- ---- what the functions that judge headers go on with

pub record EndsFile (bytes : List ℕ) : Type 0 where
  pub ends : shoff_of bytes + section_headers_size ≡ length bytes
  pub small : length bytes < 2 ^ 32

pub header_ends_file : (bytes : List ℕ) → None ≡ first_bad bytes (file_header_fields bytes) → EndsFile bytes
unfolding file_header_fields
header_ends_file bytes e =
    let good = are_good bytes _ e in
    let shoff = tested_good bytes _ _ _ good.1.1.1.1.1.1.1.1.1.1.1.0 in
    let p2 = both _ _ shoff.is in
    let p1 = both _ _ p2.0 in
    record { ends = eqb-true _ _ p1.1; small = ltb-true _ _ p2.1 }

pub section_fits : (bytes : List ℕ) (shoff index : ℕ) (h : SectionHeader) (is_size : Bool) → None ≡ first_bad bytes (section_fields bytes shoff index h is_size) → h.offset + h.size ≤ shoff
unfolding section_fields
section_fits bytes shoff index h is_size e =
    let good = are_good bytes _ e in
    let size = tested_good bytes _ _ _ good.1.1.1.1.1.0 in
    let p2 = both _ _ size.is in
    leb-true _ _ p2.1

pub end_is : (bytes : List ℕ) (shoff : ℕ) (s : Sizes) → None ≡ first_bad bytes (end_fields shoff s) → headers_at s ≡ shoff
unfolding end_fields
end_is bytes shoff s e = let good = are_good bytes _ e in eqb-true _ _ (tested_good bytes _ _ _ good.0).is

-- The section headers are judged in two parts.
pub section_headers_halves : (bytes : List ℕ) (shoff : ℕ) (s : Sizes)
    → section_headers_fields bytes shoff s ≡ sections_from bytes shoff 0 (take 5 (zip (headers s) (are_sizes s))) ++ sections_from bytes shoff 5 (drop 5 (zip (headers s) (are_sizes s)))
unfolding section_headers_fields headers
section_headers_halves bytes shoff s = simp append_assoc

pub symbol_size_right : (bytes : List ℕ) (at name value : ℕ) (is_size : Bool) (info index : ℕ) → None ≡ first_bad bytes (symbol_fields bytes at name value is_size info index) → is_size ≡ true
unfolding symbol_fields
symbol_size_right bytes at name value is_size info index e = let good = are_good bytes _ e in (tested_good bytes _ _ _ good.1.1.0).is

-- A name and the one behind it are ended by zero bytes.
pub class_names_end : (bytes : List ℕ) (at : ℕ) (left : List ℕ) → None ≡ first_bad bytes (class_name_fields at left) → (name_len left < length left) × (name_len (behind_name left) < length (behind_name left))
unfolding class_name_fields
class_names_end bytes at left e =
    let good = are_good bytes _ e in
    let code = (both _ _ good.0).1 in
    let tables = (both _ _ good.1.0).1 in
    (ltb-true _ _ (both _ _ code).0, ltb-true _ _ (both _ _ tables).0)
