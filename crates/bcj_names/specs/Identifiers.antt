-- What an identifier is (JLS 3.8), and the words that are reserved (JLS 3.9 and the literals of 3.10.3 and 3.10.7), in ASCII.
use Rattle.std.specs.Prelude.{◌≡◌, ℕ, Bool, true, false, not, ◌&&◌, ◌||◌, ◌==◌, List, [], ◌∷◌, codes, refl}
use Rattle.std.specs.Int.{is_in_range}
use Rattle.std.specs.List.{list_any, list_all}
use Rattle.std.specs.Str.{bytes_eq}

-- a byte from the first of these two to the second
abbrev pub in_span : List ℕ → ℕ → Bool
in_span [] b = false
in_span (low ∷ []) b = false
in_span (low ∷ high ∷ rest) b = is_in_range low high b

abbrev pub is_one_of : List ℕ → ℕ → Bool
is_one_of bytes b = list_any (λ c. b == c) bytes

abbrev pub is_letter : ℕ → Bool
is_letter b = in_span (codes "AZ") b || in_span (codes "az") b

abbrev pub is_digit : ℕ → Bool
is_digit b = in_span (codes "09") b

-- a letter, `$` or `_`
abbrev pub begins_identifier : ℕ → Bool
begins_identifier b = is_letter b || is_one_of (codes "$_") b

-- one of these or a digit
abbrev pub in_identifier : ℕ → Bool
in_identifier b = begins_identifier b || is_digit b

-- the keywords, and `true`, `false` and `null`
unfoldable pub reserved_words : List (List ℕ)
reserved_words =
    codes "abstract" ∷ codes "assert" ∷ codes "boolean" ∷ codes "break" ∷ codes "byte" ∷ codes "case" ∷ codes "catch" ∷ codes "char" ∷ codes "class" ∷ codes "const"
    ∷ codes "continue" ∷ codes "default" ∷ codes "do" ∷ codes "double" ∷ codes "else" ∷ codes "enum" ∷ codes "extends" ∷ codes "final" ∷ codes "finally" ∷ codes "float"
    ∷ codes "for" ∷ codes "goto" ∷ codes "if" ∷ codes "implements" ∷ codes "import" ∷ codes "instanceof" ∷ codes "int" ∷ codes "interface" ∷ codes "long" ∷ codes "native"
    ∷ codes "new" ∷ codes "package" ∷ codes "private" ∷ codes "protected" ∷ codes "public" ∷ codes "return" ∷ codes "short" ∷ codes "static" ∷ codes "strictfp" ∷ codes "super"
    ∷ codes "switch" ∷ codes "synchronized" ∷ codes "this" ∷ codes "throw" ∷ codes "throws" ∷ codes "transient" ∷ codes "try" ∷ codes "void" ∷ codes "volatile" ∷ codes "while"
    ∷ codes "true" ∷ codes "false" ∷ codes "null" ∷ []

unfoldable pub is_reserved : List ℕ → Bool
is_reserved name = list_any (λ word. bytes_eq word name) reserved_words

-- the shape of an identifier, which reserved words have too
abbrev pub is_word : List ℕ → Bool
is_word [] = false
is_word (b ∷ rest) = begins_identifier b && list_all in_identifier rest

unfoldable pub is_identifier : List ℕ → Bool
is_identifier name = is_word name && not (is_reserved name)

pub dollar_row : is_word (codes "$x_1") ≡ true
dollar_row = refl

pub digit_row : is_word (codes "1x") ≡ false
digit_row = refl

pub reserved_row : is_identifier (codes "goto") ≡ false
unfolding is_identifier is_reserved reserved_words
reserved_row = refl

pub near_row : is_identifier (codes "gotos") ≡ true
unfolding is_identifier is_reserved reserved_words
near_row = refl
