-- Classes of bytes, JLS 3.4, 3.6, 3.7 and 3.10
use Prim.Native.Char.{code}
use Rattle.std.specs.Prelude.{ℕ, Bool, not, ◌&&◌, ◌||◌, ◌==◌, List, codes}
use Rattle.std.specs.Char.{is_ascii}
use Rattle.bcj_names.specs.Identifiers.{in_span, is_one_of, is_digit}

abbrev pub Text : Type 0
Text = List ℕ

-- space, tab, form feed, CR and LF
unfoldable pub is_blank : ℕ → Bool
is_blank b = is_one_of (codes " \t\u{c}\r\n") b

-- CR and LF
unfoldable pub is_line_end : ℕ → Bool
is_line_end b = is_one_of (codes "\r\n") b

-- a byte of a comment up to the line's end, past ASCII too
unfoldable pub in_line : ℕ → Bool
in_line b = not (is_line_end b)

unfoldable pub is_octal_digit : ℕ → Bool
is_octal_digit b = in_span (codes "07") b

unfoldable pub is_binary_digit : ℕ → Bool
is_binary_digit b = in_span (codes "01") b

unfoldable pub is_hex_digit : ℕ → Bool
is_hex_digit b = is_digit b || in_span (codes "af") b || in_span (codes "AF") b

unfoldable pub is_sign : ℕ → Bool
is_sign b = is_one_of (codes "+-") b

unfoldable pub is_x : ℕ → Bool
is_x b = is_one_of (codes "xX") b

unfoldable pub is_b : ℕ → Bool
is_b b = is_one_of (codes "bB") b

-- ExponentIndicator
unfoldable pub is_e : ℕ → Bool
is_e b = is_one_of (codes "eE") b

-- BinaryExponentIndicator
unfoldable pub is_p : ℕ → Bool
is_p b = is_one_of (codes "pP") b

-- IntegerTypeSuffix
unfoldable pub is_long_suffix : ℕ → Bool
is_long_suffix b = is_one_of (codes "lL") b

-- FloatTypeSuffix
unfoldable pub is_float_suffix : ℕ → Bool
is_float_suffix b = is_one_of (codes "fFdD") b

-- a byte that a backslash takes with it in a string or character literal: of ASCII and no line end
unfoldable pub is_escaped : ℕ → Bool
is_escaped b = is_ascii b && not (is_line_end b)

-- a byte that stands for itself in such a literal
unfoldable pub in_literal : ℕ → Bool
in_literal b = is_escaped b && not (b == code "\\")
