-- The fields of a file, each judged by itself, and the first one that is bad.
use Rattle.std.specs.Prelude.{ℕ, ◌+◌, List, [], ◌∷◌, length, take, drop, slice_index, Bool, Option, Some, None, ◌&&◌, ◌==◌, nat_le, if◌then◌else◌}
use Rattle.std.specs.Int.{w16, from_le_bytes}
use Rattle.std.specs.Str.{bytes_eq}
use Rattle.bcj_elf.specs.Elf.{half_size, word_size}
use Rattle.bcj_elf.specs.Rules.{word_at}

-- its name, the offset of its first byte, its bytes, and whether its value is as the fields before it ask
pub record Field : Type 0 where
  pub name : List ℕ
  pub at : ℕ
  pub size : ℕ
  pub is_right : Bool

-- A field that the file's end cuts is bad, whatever its value.
abbrev pub is_good : List ℕ → Field → Bool
is_good bytes f = nat_le (f.at + f.size) (length bytes) && f.is_right

-- the place and the name of the first bad field
unfoldable pub first_bad : List ℕ → List Field → Option (ℕ × List ℕ)
first_bad bytes [] = None
first_bad bytes (f ∷ fs) = if is_good bytes f then first_bad bytes fs else Some (f.at, f.name)

-- a word that is tested
unfoldable pub tested : ℕ → List ℕ → Bool → Field
tested at name is_right = record { name = name; at = at; size = word_size; is_right = is_right }

-- fields with one right value

unfoldable pub byte_field : List ℕ → ℕ → List ℕ → ℕ → Field
byte_field bytes at name n = record { name = name; at = at; size = 1; is_right = slice_index bytes at == n }

unfoldable pub half_field : List ℕ → ℕ → List ℕ → ℕ → Field
half_field bytes at name n = record { name = name; at = at; size = half_size; is_right = from_le_bytes w16 (take half_size (drop at bytes)) == n }

unfoldable pub word_field : List ℕ → ℕ → List ℕ → ℕ → Field
word_field bytes at name n = record { name = name; at = at; size = word_size; is_right = word_at at bytes == n }

unfoldable pub text_field : List ℕ → ℕ → List ℕ → List ℕ → Field
text_field bytes at name text = record { name = name; at = at; size = length text; is_right = bytes_eq (take (length text) (drop at bytes)) text }
