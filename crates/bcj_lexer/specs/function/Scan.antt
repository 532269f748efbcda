-- The piece at the front of a text, as a function of its bytes. The contracts of `lex` speak of the finished cutting; a proof shows that this is the longest piece.
use Prim.Native.Char.{code}
use Rattle.std.specs.Prelude.{ℕ, ◌-◌, Bool, true, false, cond, ◌&&◌, ◌==◌, nat_le, List, [], ◌∷◌, length, take, Option, Some, None, codes}
use Rattle.std.specs.Option.{option_map}
use denote.Ref.{Bor}
use Rattle.bcj_names.specs.Identifiers.{is_one_of, begins_identifier, in_identifier, is_reserved}
use Rattle.bcj_lexer.specs.Bytes.{Text, is_blank, in_line, in_literal, is_escaped}
use Rattle.bcj_lexer.specs.Symbols.{separators, operators}
use Rattle.bcj_lexer.specs.Numbers.{begins_number, begins_hex, goes_on}
use Rattle.bcj_lexer.specs.function.Words.{number_kind}
use Rattle.bcj_lexer.specs.declared.TokenKind.{TokenKind}
use Rattle.bcj_lexer.specs.declared.TokenKind.TheVariants as kind
use Rattle.bcj_lexer.specs.declared.piece.PieceKind.{PieceKind}
use Rattle.bcj_lexer.specs.declared.piece.PieceKind.TheVariants as piece

-- what a piece is, and the text behind it
abbrev pub Found : Type 0
Found = Option (PieceKind × Text)

abbrev pub seen : Option (PieceKind × Bor Text) → Found
seen = option_map (λ p. (p.0, p.1.now))

-- the text behind the bytes that pass the test
unfoldable pub behind : (ℕ → Bool) → Text → Text
behind test [] = []
behind test (b ∷ z) = cond (test b) (behind test z) (b ∷ z)

-- the bytes of the first text before the second
abbrev pub before : Text → Text → Text
before z r = take (length z - length r) z

unfoldable pub found : PieceKind → Option Text → Found
found k None = None
found k (Some r) = Some (k, r)

-- ---- words

unfoldable pub word_kind : Text → TokenKind
word_kind w = cond (is_reserved w) kind.Reserved kind.Identifier

unfoldable pub word : Text → PieceKind × Text
word z = (piece.Token (word_kind (before z (behind in_identifier z))), behind in_identifier z)

-- ---- numbers

unfoldable pub behind_tail : Bool → ℕ → Text → Text
behind_tail hex previous [] = []
behind_tail hex previous (b ∷ z) = cond (goes_on hex previous b) (behind_tail hex b z) (b ∷ z)

unfoldable pub behind_number : Text → Text
behind_number [] = []
behind_number (b ∷ z) = behind_tail (begins_hex (b ∷ z)) b z

unfoldable pub number_found : Option TokenKind → Text → Found
number_found None r = None
number_found (Some k) r = Some (piece.Token k, r)

unfoldable pub number : Text → Found
number z = number_found (number_kind (before z (behind_number z))) (behind_number z)

-- ---- comments, strings and characters

unfoldable pub behind_block : Text → Option Text
behind_block [] = None
behind_block (b ∷ []) = None
behind_block (b ∷ c ∷ z) = cond (b == code "*" && c == code "/") (Some z) (behind_block (c ∷ z))

-- Behind the quote that closes a literal. `escaped` says that the byte before is a backslash that takes the next byte with it.
unfoldable pub behind_quoted : ℕ → Bool → Text → Option Text
behind_quoted quote escaped [] = None
behind_quoted quote escaped (b ∷ z) =
    cond escaped (cond (is_escaped b) (behind_quoted quote false z) None)
    (cond (b == quote) (Some z) (cond (b == code "\\") (behind_quoted quote true z) (cond (in_literal b) (behind_quoted quote false z) None)))

-- ---- separators and operators

unfoldable pub strip : Text → Text → Option Text
strip [] z = Some z
strip (a ∷ w) [] = None
strip (a ∷ w) (b ∷ z) = cond (a == b) (strip w z) None

-- the shorter rest, which is that of the longer symbol
unfoldable pub shorter : Option Text → Option Text → Option Text
shorter None r = r
shorter (Some q) None = Some q
shorter (Some q) (Some r) = cond (nat_le (length q) (length r)) (Some q) (Some r)

unfoldable pub behind_symbol : Option Text → List Text → Text → Option Text
behind_symbol best [] z = best
behind_symbol best (w ∷ ws) z = behind_symbol (shorter best (strip w z)) ws z

unfoldable pub operator : Text → Found
operator z = found (piece.Token kind.Operator) (behind_symbol None operators z)

unfoldable pub separator_or : Option Text → Text → Found
separator_or None z = operator z
separator_or (Some r) z = Some (piece.Token kind.Separator, r)

unfoldable pub symbol : Text → Found
symbol z = separator_or (behind_symbol None separators z) z

-- ---- any piece

-- a text that begins with `/`, from its rest
unfoldable pub slash : Text → Text → Found
slash text [] = symbol text
slash text (b ∷ z) = cond (b == code "/") (Some (piece.Comment, behind in_line z)) (cond (b == code "*") (found piece.Comment (behind_block z)) (symbol text))

-- the last byte of a text may be 0x1A
unfoldable pub is_last_blank : ℕ → Text → Bool
is_last_blank b [] = b == code "\u{1a}"
is_last_blank b (c ∷ z) = false

-- the byte is a separator by itself, whatever follows it
unfoldable pub is_separator : ℕ → Bool
is_separator b = is_one_of (codes "(){}[];,@") b

unfoldable pub other : ℕ → Text → Found
other b z =
    cond (b == code "\"") (found (piece.Token kind.Str) (behind_quoted (code "\"") false z)) (cond (b == code "'") (found (piece.Token kind.Char) (behind_quoted (code "'") false z))
    (cond (b == code "/") (slash (b ∷ z) z) (cond (is_last_blank b z) (Some (piece.Blank, z)) (symbol (b ∷ z)))))

unfoldable pub scan : Text → Found
scan [] = None
scan (b ∷ z) = cond (is_blank b) (Some (piece.Blank, z)) (cond (begins_identifier b) (Some (word (b ∷ z))) (cond (begins_number (b ∷ z)) (number (b ∷ z)) (other b z)))
