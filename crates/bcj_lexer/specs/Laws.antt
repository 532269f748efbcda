-- What holds of the tokens of every text
use Rattle.std.specs.Prelude.{◌≡◌, ◌<◌, ◌≤◌, ℕ, List, length, slice_range}
use Rattle.std.specs.List.{All}
use Rattle.std.specs.Str.{IsAscii}
use Rattle.bcj_lexer.specs.Bytes.{Text}
use Rattle.bcj_lexer.specs.Pieces.{Piece, IsCutting, TokensOf, InOrder}
use Rattle.bcj_lexer.specs.declared.Token.{Token}

-- a text has at most one cutting, and so at most one list of tokens
abbrev pub OneCutting : Type 0
OneCutting = (text : Text) (pieces others : List Piece) → IsCutting text pieces → IsCutting text others → pieces ≡ others

abbrev pub OneList : Type 0
OneList = (text : Text) (tokens others : List Token) → TokensOf text tokens → TokensOf text others → tokens ≡ others

-- each token begins at or behind the end of the one before, is not empty, and ends within the text
abbrev pub Ordered : Type 0
Ordered = (text : Text) (tokens : List Token) → TokensOf text tokens → InOrder 0 (length text) tokens

-- the same of each token alone
abbrev pub AreWithin : ℕ → List Token → Type 0
AreWithin size tokens = All (λ t. (t.start < t.end) × (t.end ≤ size)) tokens

abbrev pub Within : Type 0
Within = (text : Text) (tokens : List Token) → TokensOf text tokens → AreWithin (length text) tokens

-- each token is ASCII
abbrev pub AreAscii : Text → List Token → Type 0
AreAscii text tokens = All (λ t. IsAscii (slice_range text t.start t.end)) tokens

abbrev pub Ascii : Type 0
Ascii = (text : Text) (tokens : List Token) → TokensOf text tokens → AreAscii text tokens
