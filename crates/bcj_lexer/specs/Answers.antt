-- What the answers of `lex` say of a text
use Rattle.std.specs.Prelude.{◌≡◌, ◌-◌, ◌<◌, ◌≤◌, ℕ, List, length, Result, Ok, Err}
use Rattle.bcj_lexer.specs.Bytes.{Text}
use Rattle.bcj_lexer.specs.Pieces.{Piece, IsCutting, Stuck}
use Rattle.bcj_lexer.specs.declared.Token.{Token}
use Rattle.bcj_lexer.specs.declared.LexStop.{LexStop}
use Rattle.bcj_lexer.specs.declared.LexStop.TheVariants.{Bad, TooLong, NoMemory}

-- The text has no cutting, and `at` is the place behind the longest run of pieces from its first byte.
pub record IsBad (text : Text) (at : ℕ) : Type 0 where
  pub rest : Text
  pub stuck : Stuck text rest
  pub place : at ≡ length text - length rest
  pub within : at < length text
  pub uncut : (pieces : List Piece) → IsCutting text pieces → ⊥

-- the most bytes that a source may have
abbrev pub max_source_bytes : ℕ
max_source_bytes = 1048576

-- what each refusal says of the text
abbrev pub IsStop : Text → LexStop → Type 0
IsStop text (Bad at) = (length text ≤ max_source_bytes) × IsBad text at
IsStop text TooLong = max_source_bytes < length text
IsStop text NoMemory = length text ≤ max_source_bytes

abbrev pub IsTooLong : Result (List Token) LexStop → Type 0
IsTooLong (Ok ts) = ⊥
IsTooLong (Err TooLong) = Unit {0}
IsTooLong (Err e) = ⊥
