-- Which unit a source text is, and why one is none.
use Rattle.std.specs.Prelude.{ℕ, List, ◌++◌, codes, Some, None}
use Rattle.bcj_lexer.specs.declared.Token.{Token}
use Rattle.bcj_lexer.specs.Pieces.{TokensOf}
use Rattle.bcj_lexer.specs.Answers.{IsBad}
use Rattle.bcj_parser.specs.Answers.{name_of}
use Rattle.bcj_parser_rules.specs.declared.construct.Construct.{Construct}
use Rattle.bcj_parser_rules.specs.Texts.{IsUnit, IsRefused, IsTooDeep, IsTooMany}
use Rattle.bcj_parser_trees.specs.Trees.{PlainUnit}

-- the text has these tokens, which the grammar derives this unit from, with at most 64 types and at most 256 high
pub record Parses (text : List ℕ) (unit : PlainUnit) : Type 0 where
  pub tokens : List Token
  pub lexed : TokensOf text tokens
  pub parsed : IsUnit text tokens unit

-- the text is no unit
abbrev pub IsNoUnit : List ℕ → Type 0
IsNoUnit text = (unit : PlainUnit) → Parses text unit → ⊥

-- why a text is no unit: at this place, of this kind
pub data IsTextRefusal (text : List ℕ) : ℕ → List ℕ → Type 0 where
  bad_character : {at : ℕ} → IsBad text at → IsTextRefusal text at (codes "bad character")
  syntax : {at : ℕ} {tokens : List Token} → TokensOf text tokens → IsRefused text tokens at None → IsTextRefusal text at (codes "syntax")
  not_in_profile : {at : ℕ} {tokens : List Token} {what : Construct} → TokensOf text tokens → IsRefused text tokens at (Some what)
      → IsTextRefusal text at (codes "not in profile: " ++ name_of what)
  too_deep : {at : ℕ} {tokens : List Token} → TokensOf text tokens → IsTooDeep text tokens at → IsTextRefusal text at (codes "too deep")
  too_many_types : {at : ℕ} {tokens : List Token} → TokensOf text tokens → IsTooMany text tokens at → IsTextRefusal text at (codes "too many types")
