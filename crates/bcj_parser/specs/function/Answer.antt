-- The answer of the parser as a function of the tokens.
use Rattle.std.specs.Prelude.{◌≡◌, ℕ, ◌-◌, List, length, take, Option, Some, None, Result, Ok, Err}
use Rattle.bcj_parser_trees.specs.declared.unit.Unit as declared
use Rattle.bcj_parser_trees.specs.Trees.{PlainUnit}
use Rattle.bcj_parser_trees.specs.Plain.{unit_of}
use Rattle.bcj_parser_rules.specs.declared.construct.Construct.{Construct}
use Rattle.bcj_parser_rules.specs.declared.stop.Stop.{Stop}
use Rattle.bcj_parser_rules.specs.declared.stop.Stop.TheVariants as stop
use Rattle.bcj_parser_rules.specs.Lexemes.{Lexemes}
use Rattle.bcj_parser_rules.specs.Limits.{max_types}
use Rattle.bcj_parser_rules.specs.LeftOut.{construct_at}
use Rattle.bcj_parser_rules.specs.Texts.{place_of}
use Rattle.bcj_parser_rules.specs.function.Steps.{Outcome}
use Rattle.bcj_parser_rules.specs.function.Declarations.{unit, unit_room}
use Rattle.bcj_parser.specs.declared.ParseStop.{ParseStop}
use Rattle.bcj_parser.specs.declared.ParseStop.TheVariants.{Syntax, NotInProfile, TooDeep, TooMany, NoMemory}

abbrev pub refusal : ℕ → Option Construct → ParseStop
refusal at None = Syntax at
refusal at (Some w) = NotInProfile at w

-- the tokens of a text before those that are left
abbrev pub before : Lexemes → Lexemes → Lexemes
before i from = take (length i - length from) i

-- where such tokens are left of all of the text
abbrev pub stop_at : List ℕ → Lexemes → Lexemes → Stop → ParseStop
stop_at text i from (stop.Refused site) = refusal (place_of text from) (construct_at site (before i from) from)
stop_at text i from stop.TooDeep = TooDeep (place_of text from)
stop_at text i from stop.TooMany = TooMany (place_of text from)
stop_at text i from stop.NoMemory = NoMemory

abbrev pub answer_by : List ℕ → Lexemes → Outcome (PlainUnit × ℕ) → Result PlainUnit ParseStop
answer_by text i (Ok p, from) = Ok p.0
answer_by text i (Err e, from) = Err (stop_at text i from e)

-- of all tokens of the text
abbrev pub answer : List ℕ → Lexemes → Result PlainUnit ParseStop
answer text i = answer_by text i (unit unit_room max_types i)

-- what the Rust function answers, unless memory fails
abbrev pub Answers : Result PlainUnit ParseStop → Result declared.Unit ParseStop → Type 0
Answers o (Ok u) = o ≡ Ok (unit_of u)
Answers o (Err NoMemory) = Unit {0}
Answers o (Err e) = o ≡ Err e
