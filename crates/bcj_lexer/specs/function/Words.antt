-- What a number word is, as a function of its bytes. The contracts of `lex` speak of `Literal`; a proof shows that this agrees with it.
use Prim.Native.Char.{code}
use Rattle.std.specs.Prelude.{ℕ, Bool, true, false, cond, ◌&&◌, ◌==◌, [], ◌∷◌, Option, Some, None}
use Rattle.std.specs.Option.{unwrap_or}
use Rattle.bcj_names.specs.Identifiers.{is_digit}
use Rattle.bcj_lexer.specs.Bytes.{Text, is_octal_digit, is_binary_digit, is_hex_digit, is_sign, is_x, is_b, is_e, is_p, is_long_suffix, is_float_suffix}
use Rattle.bcj_lexer.specs.declared.TokenKind.{TokenKind}
use Rattle.bcj_lexer.specs.declared.TokenKind.TheVariants as kind
use Rattle.bcj_lexer.specs.declared.number.Indicator.{Indicator}
use Rattle.bcj_lexer.specs.declared.number.Indicator.TheVariants as indicator
use Rattle.bcj_lexer.specs.declared.number.Radix.{Radix}
use Rattle.bcj_lexer.specs.declared.number.Radix.TheVariants.{Binary, Octal, Decimal, Hexadecimal}

abbrev pub digit_of : Radix → ℕ → Bool
digit_of Binary = is_binary_digit
digit_of Octal = is_octal_digit
digit_of Decimal = is_digit
digit_of Hexadecimal = is_hex_digit

abbrev pub indicator_of : Indicator → ℕ → Bool
indicator_of indicator.Decimal = is_e
indicator_of indicator.Binary = is_p

-- The text behind digits and underscores. `ends` says that the byte before is a digit.
unfoldable pub past : (ℕ → Bool) → Bool → Text → Option Text
past digit ends [] = cond ends (Some []) None
past digit ends (b ∷ z) = cond (digit b) (past digit true z) (cond (b == code "_") (past digit false z) (cond ends (Some (b ∷ z)) None))

unfoldable pub digits : (ℕ → Bool) → Text → Option Text
digits digit [] = None
digits digit (b ∷ z) = cond (digit b) (past digit true z) None

-- ---- ends of a word

unfoldable pub integer_end : Text → Option TokenKind
integer_end [] = Some kind.Int
integer_end (b ∷ []) = cond (is_long_suffix b) (Some kind.Long) None
integer_end (b ∷ c ∷ z) = None

unfoldable pub float_end : Text → Option TokenKind
float_end [] = Some kind.Float
float_end (b ∷ []) = cond (is_float_suffix b) (Some kind.Float) None
float_end (b ∷ c ∷ z) = None

unfoldable pub unsigned : Text → Text
unsigned [] = []
unsigned (b ∷ z) = cond (is_sign b) z (b ∷ z)

-- behind an exponent part
unfoldable pub past_exponent : (ℕ → Bool) → Text → Option Text
past_exponent indicator [] = None
past_exponent indicator (b ∷ z) = cond (indicator b) (digits is_digit (unsigned z)) None

-- an exponent part and a suffix, each of which may be left out
unfoldable pub decimal_end : Text → Option TokenKind
decimal_end z = float_end (unwrap_or (past_exponent is_e z) z)

unfoldable pub integer_at : Option Text → Option TokenKind
integer_at None = None
integer_at (Some r) = integer_end r

unfoldable pub float_at : Option Text → Option TokenKind
float_at None = None
float_at (Some r) = float_end r

-- a binary exponent, and a suffix that may be left out
unfoldable pub binary_end : Text → Option TokenKind
binary_end z = float_at (past_exponent is_p z)

-- ---- decimal and octal

unfoldable pub decimal_float : Text → Option TokenKind
decimal_float [] = decimal_end []
decimal_float (b ∷ z) = cond (b == code ".") (decimal_end (unwrap_or (digits is_digit z) z)) (decimal_end (b ∷ z))

-- an integer that begins with 0 is octal
unfoldable pub octal_or : Text → TokenKind → Option TokenKind
octal_or [] k = Some k
octal_or (b ∷ z) k = cond (b == code "0") (integer_at (past is_octal_digit true z)) (Some k)

unfoldable pub decimal_by : Text → Text → Option TokenKind → Option TokenKind
decimal_by word r None = decimal_float r
decimal_by word r (Some k) = octal_or word k

unfoldable pub decimal_at : Text → Option Text → Option TokenKind
decimal_at word None = None
decimal_at word (Some r) = decimal_by word r (integer_end r)

unfoldable pub decimal : Text → Option TokenKind
decimal word = decimal_at word (digits is_digit word)

unfoldable pub fraction_at : Option Text → Option TokenKind
fraction_at None = None
fraction_at (Some r) = decimal_end r

-- behind the point that begins a word
unfoldable pub fraction : Text → Option TokenKind
fraction z = fraction_at (digits is_digit z)

-- ---- hexadecimal, behind `0x`

unfoldable pub hex_float : Text → Option TokenKind
hex_float [] = None
hex_float (b ∷ z) = cond (b == code ".") (binary_end (unwrap_or (digits is_hex_digit z) z)) (binary_end (b ∷ z))

unfoldable pub hex_by : Text → Option TokenKind → Option TokenKind
hex_by r None = hex_float r
hex_by r (Some k) = Some k

unfoldable pub binary_at : Option Text → Option TokenKind
binary_at None = None
binary_at (Some r) = binary_end r

-- no digits before the point
unfoldable pub hex_point : Text → Option TokenKind
hex_point [] = None
hex_point (b ∷ z) = cond (b == code ".") (binary_at (digits is_hex_digit z)) None

unfoldable pub hex_at : Text → Option Text → Option TokenKind
hex_at z None = hex_point z
hex_at z (Some r) = hex_by r (integer_end r)

unfoldable pub hexadecimal : Text → Option TokenKind
hexadecimal z = hex_at z (digits is_hex_digit z)

-- ---- a whole word

unfoldable pub based : ℕ → Text → Option TokenKind
based b [] = decimal (b ∷ [])
based b (c ∷ z) = cond (is_x c && b == code "0") (hexadecimal z) (cond (is_b c && b == code "0") (integer_at (digits is_binary_digit z)) (decimal (b ∷ c ∷ z)))

unfoldable pub number_kind : Text → Option TokenKind
number_kind [] = None
number_kind (b ∷ z) = cond (b == code ".") (fraction z) (based b z)
