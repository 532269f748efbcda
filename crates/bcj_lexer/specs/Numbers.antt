-- Number words, and the literals of JLS 3.10.1 and 3.10.2. A family over two texts speaks of the bytes from the first text up to the second.
use Prim.Native.Char.{code}
use Rattle.std.specs.Prelude.{◌≡◌, ℕ, Bool, true, false, cond, ◌&&◌, ◌||◌, ◌==◌, [], ◌∷◌, ◌++◌, codes}
use Rattle.bcj_names.specs.Identifiers.{is_digit, in_identifier}
use Rattle.bcj_lexer.specs.Bytes.{Text, is_octal_digit, is_binary_digit, is_hex_digit, is_sign, is_x, is_b, is_e, is_p, is_long_suffix, is_float_suffix}
use Rattle.bcj_lexer.specs.declared.TokenKind.{TokenKind}
use Rattle.bcj_lexer.specs.declared.TokenKind.TheVariants as kind

-- ---- the extent of a number word

-- a number word begins here: with a digit, or with `.` and a digit behind it
unfoldable pub begins_number : Text → Bool
begins_number [] = false
begins_number (b ∷ []) = is_digit b
begins_number (b ∷ c ∷ z) = is_digit b || (b == code "." && is_digit c)

-- the text begins with `0x` or `0X`
unfoldable pub begins_hex : Text → Bool
begins_hex (b ∷ c ∷ z) = b == code "0" && is_x c
begins_hex _ = false

-- the byte goes on with a number word behind the byte `previous`: a letter, digit, `_`, `$` or `.`, or a sign right behind `e` or `E`, in a word that begins with `0x` or `0X` right behind `p` or `P`
unfoldable pub goes_on : Bool → ℕ → ℕ → Bool
goes_on hex previous b = in_identifier b || b == code "." || (is_sign b && cond hex (is_p previous) (is_e previous))

-- from behind the byte `previous` to the number word's end, with the bytes on the way
pub data NumberTail (hex : Bool) : ℕ → Text → Text → Text → Type 0 where
  ends : {previous : ℕ} → NumberTail hex previous [] [] []
  stops : {previous b : ℕ} {z : Text} → goes_on hex previous b ≡ false → NumberTail hex previous (b ∷ z) [] (b ∷ z)
  takes : {previous b : ℕ} {z w r : Text} → goes_on hex previous b ≡ true → NumberTail hex b z w r → NumberTail hex previous (b ∷ z) (b ∷ w) r

-- the whole number word at the front of the first text, its bytes, and what is behind it
pub data NumberWord : Text → Text → Text → Type 0 where
  number_word : {b : ℕ} {z w r : Text} → begins_number (b ∷ z) ≡ true → NumberTail (begins_hex (b ∷ z)) b z w r → NumberWord (b ∷ z) (b ∷ w) r

-- ---- integer literals, JLS 3.10.1

-- Underscores, or nothing
pub data Gap : Text → Text → Type 0 where
  none : {r : Text} → Gap r r
  underscore : {z r : Text} → Gap z r → Gap (codes "_" ++ z) r

-- Digits, HexDigits, OctalDigits and BinaryDigits: underscores stand between digits alone
pub data Digits (digit : ℕ → Bool) : Text → Text → Type 0 where
  one : {b : ℕ} {r : Text} → digit b ≡ true → Digits digit (b ∷ r) r
  more : {b : ℕ} {z m r : Text} → digit b ≡ true → Gap z m → Digits digit m r → Digits digit (b ∷ z) r

-- DecimalNumeral, HexNumeral, OctalNumeral and BinaryNumeral
pub data Numeral : Text → Text → Type 0 where
  zero : {r : Text} → Numeral (codes "0" ++ r) r
  decimal : {b : ℕ} {z r : Text} → (b == code "0") ≡ false → Digits is_digit (b ∷ z) r → Numeral (b ∷ z) r
  hexadecimal : {x : ℕ} {z r : Text} → is_x x ≡ true → Digits is_hex_digit z r → Numeral (codes "0" ++ x ∷ z) r
  octal : {z m r : Text} → Gap z m → Digits is_octal_digit m r → Numeral (codes "0" ++ z) r
  binary : {b : ℕ} {z r : Text} → is_b b ≡ true → Digits is_binary_digit z r → Numeral (codes "0" ++ b ∷ z) r

-- ---- floating-point literals, JLS 3.10.2

-- a part that may be left out
pub data Maybe (Part : Text → Text → Type 0) : Text → Text → Type 0 where
  left_out : {r : Text} → Maybe Part r r
  present : {z r : Text} → Part z r → Maybe Part z r

-- ExponentPart, and with `p` and `P` as indicators BinaryExponent
pub data Exponent (indicator : ℕ → Bool) : Text → Text → Type 0 where
  unsigned : {b : ℕ} {z r : Text} → indicator b ≡ true → Digits is_digit z r → Exponent indicator (b ∷ z) r
  signed : {b s : ℕ} {z r : Text} → indicator b ≡ true → is_sign s ≡ true → Digits is_digit z r → Exponent indicator (b ∷ s ∷ z) r

-- FloatTypeSuffix
pub data FloatSuffix : Text → Text → Type 0 where
  float_suffix : {b : ℕ} {r : Text} → is_float_suffix b ≡ true → FloatSuffix (b ∷ r) r

pub data Point : Text → Text → Type 0 where
  point : {r : Text} → Point (codes "." ++ r) r

-- DecimalFloatingPointLiteral in its four forms, and HexadecimalFloatingPointLiteral in the two forms of HexSignificand
pub data FloatLiteral : Text → Type 0 where
  fraction : {w m n o : Text} → Digits is_digit w (codes "." ++ m) → Maybe (Digits is_digit) m n → Maybe (Exponent is_e) n o → Maybe FloatSuffix o [] → FloatLiteral w
  fraction_alone : {m n o : Text} → Digits is_digit m n → Maybe (Exponent is_e) n o → Maybe FloatSuffix o [] → FloatLiteral (codes "." ++ m)
  exponent : {w n o : Text} → Digits is_digit w n → Exponent is_e n o → Maybe FloatSuffix o [] → FloatLiteral w
  suffix : {w n o : Text} → Digits is_digit w n → Maybe (Exponent is_e) n o → FloatSuffix o [] → FloatLiteral w
  hexadecimal_whole : {x : ℕ} {z m n o : Text} → is_x x ≡ true → Digits is_hex_digit z m → Maybe Point m n → Exponent is_p n o → Maybe FloatSuffix o [] → FloatLiteral (codes "0" ++ x ∷ z)
  hexadecimal_fraction : {x : ℕ} {z m n o : Text} → is_x x ≡ true → Maybe (Digits is_hex_digit) z (codes "." ++ m) → Digits is_hex_digit m n → Exponent is_p n o → Maybe FloatSuffix o [] → FloatLiteral (codes "0" ++ x ∷ z)

-- ---- what a number word is

pub data Literal : TokenKind → Text → Type 0 where
  int : {w : Text} → Numeral w [] → Literal kind.Int w
  long : {w : Text} {b : ℕ} → is_long_suffix b ≡ true → Numeral w (b ∷ []) → Literal kind.Long w
  float : {w : Text} → FloatLiteral w → Literal kind.Float w
