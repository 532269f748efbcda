-- What an answer of the parser says of the text.
use Rattle.std.specs.Prelude.{ℕ, List, codes, Some, None}
use Rattle.bcj_lexer.specs.declared.Token.{Token}
use Rattle.bcj_parser_rules.specs.declared.construct.Construct.{Construct}
use Rattle.bcj_parser_rules.specs.declared.construct.Construct.TheVariants as construct
use Rattle.bcj_parser_rules.specs.Texts.{IsRefused, IsTooDeep, IsTooMany}
use Rattle.bcj_parser.specs.declared.ParseStop.{ParseStop}
use Rattle.bcj_parser.specs.declared.ParseStop.TheVariants.{Syntax, NotInProfile, TooDeep, TooMany, NoMemory}

-- why there is no unit
abbrev pub StopCause : List ℕ → List Token → ParseStop → Type 0
StopCause text tokens (Syntax at) = IsRefused text tokens at None
StopCause text tokens (NotInProfile at w) = IsRefused text tokens at (Some w)
StopCause text tokens (TooDeep at) = IsTooDeep text tokens at
StopCause text tokens (TooMany at) = IsTooMany text tokens at
StopCause text tokens NoMemory = Unit {0}

-- the texts that refusals name what is left out by
abbrev pub name_of : Construct → List ℕ
name_of construct.Type = codes "type"
name_of construct.String = codes "string"
name_of construct.Package = codes "package"
name_of construct.Import = codes "import"
name_of construct.Enum = codes "enum"
name_of construct.Annotation = codes "annotation"
name_of construct.Varargs = codes "varargs"
name_of construct.Assert = codes "assert"
name_of construct.NestedClass = codes "nested class"
name_of construct.Final = codes "final"
name_of construct.Modifier = codes "modifier"
name_of construct.Switch = codes "switch"
name_of construct.Finally = codes "finally"
name_of construct.Generics = codes "generics"
name_of construct.InitialiserBlock = codes "initialiser block"
name_of construct.ArrayInitialiser = codes "array initialiser"
name_of construct.AnonymousClass = codes "anonymous class"
name_of construct.Brackets = codes "brackets"
name_of construct.Dimensions = codes "dimensions"
name_of construct.EnhancedFor = codes "enhanced for"
name_of construct.Label = codes "label"
name_of construct.MultiCatch = codes "multi-catch"
name_of construct.Resources = codes "resources"
