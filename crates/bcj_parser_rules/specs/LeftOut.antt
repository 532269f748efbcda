-- The constructs that are left out of the language: the one that a refused token stands for, by the tokens before it and by
-- what is known of its place. The first line that fits decides.
use Rattle.std.specs.Prelude.{ℕ, suc, ◌-◌, Bool, true, false, not, ◌||◌, nat_lt, [], ◌∷◌, Option, Some, None, if◌then◌else◌}
use Rattle.bcj_parser_trees.specs.declared.expression.BinOp.TheVariants as op
use Rattle.bcj_parser_rules.specs.declared.kind.Mark.TheVariants as mark
use Rattle.bcj_parser_rules.specs.declared.terminal.Terminal.{Terminal}
use Rattle.bcj_parser_rules.specs.declared.terminal.Terminal.TheVariants as terminal
use Rattle.bcj_parser_rules.specs.declared.construct.Construct.{Construct}
use Rattle.bcj_parser_rules.specs.declared.construct.Construct.TheVariants as construct
use Rattle.bcj_parser_rules.specs.declared.stop.Site.{Site}
use Rattle.bcj_parser_rules.specs.declared.stop.Site.TheVariants as site
use Rattle.bcj_parser_rules.specs.Lexemes.{Lexemes, terminal_at}
use Rattle.bcj_parser_rules.specs.Marks.{is_mark}
use Rattle.bcj_parser_rules.specs.Grammar.{begins_expression}

-- the terminal of the last token, where there is one
abbrev pub last_terminal : Lexemes → Terminal
last_terminal [] = terminal.Unused
last_terminal (t ∷ []) = t.terminal
last_terminal (t ∷ u ∷ r) = last_terminal (u ∷ r)

-- how many braces are open behind tokens of which d were open before
abbrev pub open_braces : ℕ → Lexemes → ℕ
open_braces d [] = d
open_braces d (t ∷ r) = open_braces (if is_mark mark.LeftBrace t.terminal then suc d else (if is_mark mark.RightBrace t.terminal then d - 1 else d)) r

abbrev pub is_modifier : Terminal → Bool
is_modifier terminal.Public = true
is_modifier terminal.Protected = true
is_modifier terminal.Private = true
is_modifier terminal.Static = true
is_modifier terminal.Abstract = true
is_modifier terminal.Final = true
is_modifier _ = false

abbrev pub is_jump : Terminal → Bool
is_jump terminal.Break = true
is_jump terminal.Continue = true
is_jump _ = false

abbrev pub where_true : Bool → Construct → Option Construct
where_true b w = if b then Some w else None

-- `<` behind an identifier that can be a type's name
abbrev pub angle : Site → Terminal → Option Construct
angle site.HeaderName before = where_true (is_mark mark.Identifier before) construct.Generics
angle site.TypeName before = where_true (is_mark mark.Identifier before) construct.Generics
angle site.CatchClass before = where_true (is_mark mark.Identifier before) construct.Generics
angle site.DeclarationName before = where_true (is_mark mark.Identifier before) construct.Generics
angle _ before = None

-- `{`: where a member may begin, as the value of a variable, or behind the creation of an object
abbrev pub brace : Site → Terminal → Option Construct
brace site.Member before = where_true (not (is_modifier before)) construct.InitialiserBlock
brace site.Variable before = Some construct.ArrayInitialiser
brace site.Creation before = Some construct.AnonymousClass
brace _ before = where_true (is_mark mark.Assign before || is_mark mark.RightBracket before) construct.ArrayInitialiser

-- `[` behind a declared name or a list of parameters
abbrev pub bracket : Site → Terminal → Option Construct
bracket site.HeaderName before = where_true (is_mark mark.Identifier before) construct.Brackets
bracket site.LoopName before = Some construct.Brackets
bracket site.DeclaredName before = where_true (is_mark mark.Identifier before || is_mark mark.RightParen before) construct.Brackets
bracket site.CatchName before = Some construct.Brackets
bracket _ before = None

abbrev pub colon : Site → Option Construct
colon site.LoopName = Some construct.EnhancedFor
colon site.DeclarationName = Some construct.Label
colon site.StatementName = Some construct.Label
colon _ = None

abbrev pub bar : Site → Option Construct
bar site.Catch = Some construct.MultiCatch
bar site.CatchClass = Some construct.MultiCatch
bar site.CatchName = Some construct.MultiCatch
bar _ = None

-- `(` behind the name of a member that is final, or behind `try`
abbrev pub paren : Site → Terminal → Option Construct
paren site.FinalMember before = Some construct.Final
paren _ terminal.Try = Some construct.Resources
paren _ before = None

abbrev pub void : Site → Option Construct
void site.FinalMember = Some construct.Final
void _ = None

-- an expression in the empty brackets of an array creation
abbrev pub dimension : Site → Terminal → Option Construct
dimension site.Dimension k = where_true (begins_expression k) construct.Dimensions
dimension _ k = None

abbrev pub first_of : Option Construct → Option Construct → Option Construct
first_of None o = o
first_of (Some w) o = Some w

-- by the refused token itself
abbrev pub construct_by : Site → Lexemes → Terminal → Option Construct
construct_by w before (terminal.LeftOut x) = Some x
construct_by w before terminal.Class = where_true (nat_lt 0 (open_braces 0 before)) construct.NestedClass
construct_by w before terminal.Interface = where_true (nat_lt 0 (open_braces 0 before)) construct.NestedClass
construct_by w before terminal.Final = Some construct.Final
construct_by w before terminal.Void = void w
construct_by w before terminal.LeftParen = first_of (paren w (last_terminal before)) (dimension w terminal.LeftParen)
construct_by w before (terminal.Operator op.Lt) = angle w (last_terminal before)
construct_by w before terminal.LeftBrace = brace w (last_terminal before)
construct_by w before terminal.LeftBracket = bracket w (last_terminal before)
construct_by site.FirstBracket before terminal.RightBracket = Some construct.ArrayInitialiser
construct_by w before terminal.Colon = colon w
construct_by w before (terminal.Operator op.Or) = bar w
construct_by w before terminal.Identifier = first_of (where_true (is_jump (last_terminal before)) construct.Label) (dimension w terminal.Identifier)
construct_by w before k = dimension w k

unfoldable pub construct_at : Site → Lexemes → Lexemes → Option Construct
construct_at w before from = construct_by w before (terminal_at from)
