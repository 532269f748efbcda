-- The cutting of a text into blanks, comments and tokens, JLS 3.2 and 3.5 to 3.12, apart from any scan. A family over two texts speaks of the bytes from the first text up to the second.
use Prim.Native.Char.{code}
use Rattle.std.specs.Prelude.{◌≡◌, ◌≢◌, ℕ, ◌-◌, ◌<◌, ◌≤◌, Bool, true, false, ◌&&◌, ◌==◌, List, [], ◌∷◌, ◌++◌, length, codes}
use Rattle.bcj_names.specs.Identifiers.{is_identifier, is_reserved}
use Rattle.bcj_lexer.specs.Bytes.{Text, is_blank, in_line, in_literal, is_escaped}
use Rattle.bcj_lexer.specs.Symbols.{Among, separators, operators}
use Rattle.bcj_lexer.specs.Numbers.{begins_number, NumberWord, Literal}
use Rattle.bcj_lexer.specs.declared.Token.{Token}
use Rattle.bcj_lexer.specs.declared.TokenKind.{TokenKind}
use Rattle.bcj_lexer.specs.declared.TokenKind.TheVariants as kind
use Rattle.bcj_lexer.specs.declared.piece.PieceKind.{PieceKind}
use Rattle.bcj_lexer.specs.declared.piece.PieceKind.TheVariants as piece

-- ---- one piece

-- some bytes that pass the test, and which they are
pub data Run (test : ℕ → Bool) : Text → Text → Text → Type 0 where
  stop : {r : Text} → Run test r [] r
  step : {b : ℕ} {z w r : Text} → test b ≡ true → Run test z w r → Run test (b ∷ z) (b ∷ w) r

-- the text begins with `*/`
unfoldable pub closes_comment : Text → Bool
closes_comment (b ∷ c ∷ z) = b == code "*" && c == code "/"
closes_comment _ = false

-- the text begins with `/*`
unfoldable pub opens_comment : Text → Bool
opens_comment (b ∷ c ∷ z) = b == code "/" && c == code "*"
opens_comment _ = false

-- through the next `*/`
pub data Block : Text → Text → Type 0 where
  closed : {r : Text} → Block (codes "*/" ++ r) r
  inside : {b : ℕ} {z r : Text} → closes_comment (b ∷ z) ≡ false → Block z r → Block (b ∷ z) r

-- from behind a literal's first quote through the same quote on that line; a backslash takes the next byte with it
pub data Quoted (quote : ℕ) : Text → Text → Type 0 where
  close : {r : Text} → Quoted quote (quote ∷ r) r
  plain : {b : ℕ} {z r : Text} → (b == quote) ≡ false → in_literal b ≡ true → Quoted quote z r → Quoted quote (b ∷ z) r
  escape : {b : ℕ} {z r : Text} → is_escaped b ≡ true → Quoted quote z r → Quoted quote (codes "\\" ++ b ∷ z) r

-- The bytes from the first text up to the second are such a piece. At a number word the only piece is the whole word, and at `/*` the only piece is a comment. A word's front is a
-- word too: the longest one is the token.
pub data Spells : PieceKind → Text → Text → Type 0 where
  blank : {b : ℕ} {r : Text} → is_blank b ≡ true → Spells piece.Blank (b ∷ r) r
  last_byte : Spells piece.Blank (codes "\u{1a}") []
  line_comment : {z w r : Text} → Run in_line z w r → Spells piece.Comment (codes "//" ++ z) r
  block_comment : {z r : Text} → Block z r → Spells piece.Comment (codes "/*" ++ z) r
  identifier : (w : Text) {z r : Text} → is_identifier w ≡ true → z ≡ w ++ r → Spells (piece.Token kind.Identifier) z r
  reserved : (w : Text) {z r : Text} → is_reserved w ≡ true → z ≡ w ++ r → Spells (piece.Token kind.Reserved) z r
  number : {k : TokenKind} {z w r : Text} → NumberWord z w r → Literal k w → Spells (piece.Token k) z r
  string : {z r : Text} → Quoted (code "\"") z r → Spells (piece.Token kind.Str) (codes "\"" ++ z) r
  character : {z r : Text} → Quoted (code "'") z r → Spells (piece.Token kind.Char) (codes "'" ++ z) r
  separator : (w : Text) {z r : Text} → Among separators w → z ≡ w ++ r → begins_number z ≡ false → Spells (piece.Token kind.Separator) z r
  operator : (w : Text) {z r : Text} → Among operators w → z ≡ w ++ r → opens_comment z ≡ false → Spells (piece.Token kind.Operator) z r

-- such a piece, and none that begins there is longer
pub record Longest (k : PieceKind) (z r : Text) : Type 0 where
  pub spells : Spells k z r
  pub most : (other : PieceKind) (q : Text) → Spells other z q → length r ≤ length q

-- ---- the cutting

-- a piece of a text: the bytes from `start` up to and without `end`
pub record Piece : Type 0 where
  pub kind : PieceKind
  pub start : ℕ
  pub end : ℕ

-- From the first text up to the second stand these pieces, each the longest at its first byte. The whole text has `size` bytes.
pub data Cut (size : ℕ) : Text → Text → List Piece → Type 0 where
  done : {r : Text} → Cut size r r []
  cut : {k : PieceKind} {z m r : Text} {ps : List Piece} → Longest k z m → Cut size m r ps → Cut size z r (record { kind = k; start = size - length z; end = size - length m } ∷ ps)

abbrev pub IsCutting : Text → List Piece → Type 0
IsCutting text pieces = Cut (length text) text [] pieces

-- the pieces that are tokens
unfoldable pub tokens : List Piece → List Token
tokens [] = []
tokens (p ∷ ps) = elim p.kind [ piece.Blank ↦ tokens ps | piece.Comment ↦ tokens ps | piece.Token k ↦ record { kind = k; start = p.start; end = p.end } ∷ tokens ps ]

-- these are the tokens of the text: the token pieces of its cutting
pub record TokensOf (text : Text) (ts : List Token) : Type 0 where
  pub pieces : List Piece
  pub cutting : IsCutting text pieces
  pub are : ts ≡ tokens pieces

-- ---- a text without a cutting

-- The text before `rest` is pieces, none begins at `rest`, and no other run of pieces from the text's first byte ends behind it.
pub record Stuck (text rest : Text) : Type 0 where
  pub pieces : List Piece
  pub before : Cut (length text) text rest pieces
  pub left : rest ≢ []
  pub none : (k : PieceKind) (q : Text) → Spells k rest q → ⊥
  pub most : (other : Text) (qs : List Piece) → Cut (length text) text other qs → length rest ≤ length other

-- ---- order

-- tokens one behind the other, none of them empty, from `low` up to `high`
unfoldable pub InOrder : ℕ → ℕ → List Token → Type 0
InOrder low high [] = low ≤ high
InOrder low high (t ∷ ts) = (low ≤ t.start) × (t.start < t.end) × InOrder t.end high ts
