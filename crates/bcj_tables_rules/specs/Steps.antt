-- How bytes are read field by field: an outcome has what was read or why nothing was, and the bytes that are left; where a field is
-- bad, these begin with it.
use Rattle.std.specs.Prelude.{◌≡◌, ℕ, ◌+◌, ◌-◌, List, [], ◌∷◌, length, take, drop, Bool, not, ◌&&◌, ◌||◌, nat_lt, nat_le, get_or, ◌<◌, Result, Ok, Err, if◌then◌else◌}
use Rattle.std.specs.Int.{w32, from_le_bytes}
use Rattle.std.specs.List.{list_all}
use Rattle.bcj_tables_rules.specs.declared.stop.Stop.{Stop}
use Rattle.bcj_tables_rules.specs.declared.stop.Stop.TheVariants.{Bad, NoMemory}

abbrev pub Outcome : Type 0 → Type 0
Outcome A = Result A Stop × List ℕ

-- each is below 256
abbrev pub AreBytes : List ℕ → Type 0
AreBytes bytes = (i : ℕ) → get_or bytes i 0 < 256

abbrev pub Reader : Type 0 → Type 0
Reader A = List ℕ → Outcome A

abbrev pub continued : {A B : Type 0} → Result A Stop → List ℕ → (A → Reader B) → Outcome B
continued (Ok x) a f = f x a
continued (Err e) a f = (Err e, a)

abbrev pub then_read : {A B : Type 0} → Outcome A → (A → Reader B) → Outcome B
then_read o f = continued o.0 o.1 f

-- ---- one field, where it is whole and good

unfoldable pub next_byte : List ℕ → ℕ
next_byte [] = 0
next_byte (b ∷ bytes) = b

unfoldable pub byte_reading : Bool → Reader ℕ
byte_reading good bytes = if nat_lt (length bytes) 1 || not good then (Err Bad, bytes) else (Ok (next_byte bytes), drop 1 bytes)

-- little-endian
unfoldable pub next_word : List ℕ → ℕ
next_word bytes = if nat_lt (length bytes) 4 then 0 else from_le_bytes w32 (take 4 bytes)

unfoldable pub word_reading : Bool → Reader ℕ
word_reading good bytes = if nat_lt (length bytes) 4 || not good then (Err Bad, bytes) else (Ok (next_word bytes), drop 4 bytes)

-- what follows on the length of a text, as much as there is
unfoldable pub text_bytes : List ℕ → List ℕ
text_bytes bytes = take (next_word bytes) (drop 4 bytes)

abbrev pub is_ascii : List ℕ → Bool
is_ascii text = list_all (λ b. nat_lt b 128) text

-- whether a whole text of ASCII characters comes next
unfoldable pub has_text : List ℕ → Bool
has_text bytes = nat_le 4 (length bytes) && nat_le (next_word bytes) (length bytes - 4) && is_ascii (text_bytes bytes)

unfoldable pub next_text : List ℕ → List ℕ
next_text bytes = if has_text bytes then text_bytes bytes else []

unfoldable pub text_reading : Bool → Reader (List ℕ)
text_reading good bytes = if not (has_text bytes) || not good then (Err Bad, bytes) else (Ok (next_text bytes), drop (4 + length (next_text bytes)) bytes)

-- ---- what a Rust function ensures: the outcome, unless memory fails

abbrev pub Reads : {A B : Type 0} → (A → B) → Outcome B → Result A Stop → List ℕ → Type 0
Reads view outcome (Ok x) new = outcome ≡ (Ok (view x), new)
Reads view outcome (Err NoMemory) new = Unit {0}
Reads view outcome (Err Bad) new = outcome ≡ (Err Bad, new)
