-- Which program a source text spells, and why one spells none.
use Rattle.std.specs.Prelude.{◌≡◌, ℕ, ◌<◌, ◌≤◌, Bool, List, ◌++◌, length, codes, Some, None}
use Rattle.bcj_cli_language.specs.Tree.{Acts}
use Rattle.bcj_cli_language.specs.Meaning.{meaning, printed, is_finished}
use Rattle.bcj_cli_code.specs.function.Code.{program_words}
use Rattle.bcj_cli_code.specs.Sizes.{max_words}
use Rattle.bcj_cli_unit.specs.Program.{IsProgramOf}
use Rattle.bcj_cli_unit.specs.Lacking.{first_lacking}
use Rattle.bcj_lexer.specs.declared.Token.{Token}
use Rattle.bcj_lexer.specs.Pieces.{TokensOf}
use Rattle.bcj_lexer.specs.Answers.{IsBad}
use Rattle.bcj_parser.specs.Answers.{name_of}
use Rattle.bcj_parser_rules.specs.declared.construct.Construct.{Construct}
use Rattle.bcj_parser_rules.specs.Texts.{IsRefused, IsTooDeep, IsTooMany}
use Rattle.bcj_parser_trees.specs.Trees.{PlainUnit}
use Rattle.bcj_cli_compile.specs.Texts.{Parses}
use Rattle.bcj_cli_telling.specs.Lines.{place_and_kind}

-- the text's unit is this program, whose class is `main`, and its code isn't too long
pub record Spells (main text : List ℕ) (program : Acts) : Type 0 where
  pub unit : PlainUnit
  pub parses : Parses text unit
  pub means : IsProgramOf main unit program
  pub short : length (program_words program) ≤ max_words

-- no program is spelled by the text
abbrev pub SpellsNone : List ℕ → List ℕ → Type 0
SpellsNone main text = (program : Acts) → Spells main text program → ⊥

-- the text spells one program, and a run of it ends so and prints these bytes
pub record IsRun (main text : List ℕ) (turns : ℕ) (finished : Bool) (out : List ℕ) : Type 0 where
  pub program : Acts
  pub spells : Spells main text program
  pub one : (other : Acts) → Spells main text other → program ≡ other
  pub ends : is_finished (meaning program turns) ≡ finished
  pub prints : printed (meaning program turns) ≡ out

-- why a text spells no program: at this place, of this kind
pub data IsRefusal (main text : List ℕ) : ℕ → List ℕ → Type 0 where
  bad_character : {at : ℕ} → IsBad text at → IsRefusal main text at (codes "bad character")
  syntax : {at : ℕ} {tokens : List Token} → TokensOf text tokens → IsRefused text tokens at None → IsRefusal main text at (codes "syntax")
  not_in_profile : {at : ℕ} {tokens : List Token} {what : Construct} → TokensOf text tokens → IsRefused text tokens at (Some what)
      → IsRefusal main text at (codes "not in profile: " ++ name_of what)
  too_deep : {at : ℕ} {tokens : List Token} → TokensOf text tokens → IsTooDeep text tokens at → IsRefusal main text at (codes "too deep")
  too_many_types : {at : ℕ} {tokens : List Token} → TokensOf text tokens → IsTooMany text tokens at → IsRefusal main text at (codes "too many types")
  lacking : {at : ℕ} {unit : PlainUnit} → Parses text unit → first_lacking main unit ≡ Some at → IsRefusal main text at (codes "not built yet")
  too_long : {unit : PlainUnit} {program : Acts} → Parses text unit → IsProgramOf main unit program → max_words < length (program_words program)
      → IsRefusal main text 0 (codes "not built yet")

pub record IsTold (main text told : List ℕ) : Type 0 where
  pub at : ℕ
  pub kind : List ℕ
  pub cause : IsRefusal main text at kind
  pub are : told ≡ place_and_kind at kind
