-- What the grammar derives of the tokens of a text within the limits is well formed, and whatever it derives has no constructor in an
-- interface.
use Rattle.std.specs.Prelude.{ℕ, List}
use Rattle.bcj_lexer.specs.declared.Token.{Token}
use Rattle.bcj_lexer.specs.Pieces.{TokensOf}
use Rattle.bcj_parser_trees.specs.Trees.{PlainUnit}
use Rattle.bcj_parser_rules.specs.Grammar.{derives}
use Rattle.bcj_parser_rules.specs.Texts.{IsUnit}
use Rattle.bcj_parser_wellformed.specs.WellFormed.{IsWellFormed}
use Rattle.bcj_parser_wellformed.specs.Constructors.{HaveNoConstructor}

abbrev pub EachUnitIsWellFormed : Type 0
EachUnitIsWellFormed = (text : List ℕ) (tokens : List Token) (u : PlainUnit) → TokensOf text tokens → IsUnit text tokens u → IsWellFormed u

abbrev pub InterfacesHaveNoConstructors : Type 0
InterfacesHaveNoConstructors = (text : List ℕ) (tokens : List Token) (u : PlainUnit) (height : ℕ) → derives text tokens u height → HaveNoConstructor u
