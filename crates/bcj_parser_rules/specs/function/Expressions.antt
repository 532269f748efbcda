-- The parser of expressions as a function: operands, and a loop over what may follow one, from the tightest level on. A room
-- of n is the height that a tree may have at most; beside each tree stands its height.
use Rattle.std.specs.Prelude.{ℕ, ◌^◌, zero, suc, Bool, true, false, not, ◌&&◌, ◌||◌, List, [], ◌∷◌, ◌++◌, length, max, Ok, Err, if◌then◌else◌, nat_le, nat_lt}
use Rattle.bcj_parser_trees.specs.declared.names.Base.{Base}
use Rattle.bcj_parser_trees.specs.declared.names.Base.TheVariants as base
use Rattle.bcj_parser_trees.specs.declared.names.TypeName.{TypeName}
use Rattle.bcj_parser_trees.specs.declared.expression.UnaryOp.{UnaryOp}
use Rattle.bcj_parser_trees.specs.Trees as tree
use Rattle.bcj_parser_trees.specs.Trees.{PlainExpr, PlainExprs, exprs_from}
use Rattle.bcj_parser_rules.specs.declared.kind.Mark.TheVariants as mark
use Rattle.bcj_parser_rules.specs.declared.kind.Beginning.{Beginning}
use Rattle.bcj_parser_rules.specs.declared.kind.Beginning.TheVariants as begin
use Rattle.bcj_parser_rules.specs.declared.kind.Joining.{Joining}
use Rattle.bcj_parser_rules.specs.declared.kind.Joining.TheVariants as join
use Rattle.bcj_parser_rules.specs.declared.kind.TypeBeginning.{TypeBeginning}
use Rattle.bcj_parser_rules.specs.declared.kind.TypeBeginning.TheVariants as typed
use Rattle.bcj_parser_rules.specs.declared.terminal.Terminal.{Terminal}
use Rattle.bcj_parser_rules.specs.declared.stop.Site.{Site}
use Rattle.bcj_parser_rules.specs.declared.stop.Site.TheVariants as site
use Rattle.bcj_parser_rules.specs.declared.stop.Stop.TheVariants.{Refused, TooDeep}
use Rattle.bcj_parser_rules.specs.Lexemes.{Lexemes}
use Rattle.bcj_parser_rules.specs.Lexemes.{first_at}
use Rattle.bcj_parser_rules.specs.Levels as level
use Rattle.bcj_parser_rules.specs.Levels.{operator_level}
use Rattle.bcj_parser_rules.specs.Grammar.{begins_unsigned, is_place, is_array_creation, is_statement_expression, int_value, is_decimal}
use Rattle.bcj_parser_rules.specs.Lexemes.{terminal_at}
use Rattle.bcj_parser_rules.specs.function.Kinds.{beginning, joining, type_beginning}
use Rattle.bcj_parser_rules.specs.function.Steps.{Parser, ◌>>=◌, ◌>>◌, pure, refuse, deep, rest, look, skip, taken, sees, expect, named}

-- rooms stay below this, so that heights are numbers of 32 bits
abbrev pub room_bound : ℕ
room_bound = 2 ^ 16

-- ---- lists

-- further items, each behind a comma
unfoldable pub separated : {A : Type 0} → Parser (A × ℕ) → ℕ → List A → ℕ → Parser (List A × ℕ)
separated one zero found high = pure (found, high)
separated one (suc turns) found high = λ i.
    if sees mark.Comma i then skip (one >>= λ x. separated one turns (found ++ x.0 ∷ []) (max high x.1)) i else (Ok (found, high), i)

-- a first item, and further ones
unfoldable pub listed : {A : Type 0} → Parser (A × ℕ) → Parser (A × ℕ) → Parser (List A × ℕ)
listed front one = front >>= λ x i. separated one (length i) (x.0 ∷ []) x.1 i

-- items as long as the next token goes on so
unfoldable pub many : {A : Type 0} → (Terminal → Bool) → Parser (List A × ℕ) → ℕ → List A → ℕ → Parser (List A × ℕ)
many goes_on one zero found high = pure (found, high)
many goes_on one (suc turns) found high = λ i.
    if goes_on (terminal_at i) then (one >>= λ x. many goes_on one turns (found ++ x.0) (max high x.1)) i else (Ok (found, high), i)

-- ---- types

-- pairs of empty brackets behind d pairs, with room for so many
unfoldable pub brackets : Site → ℕ → ℕ → Parser ℕ
brackets w zero d = λ i. if sees mark.LeftBracket i then (Err TooDeep, i) else (Ok d, i)
brackets w (suc turns) d = λ i. if sees mark.LeftBracket i then skip (expect mark.RightBracket w >> brackets w turns (suc d)) i else (Ok d, i)

abbrev pub type_of_base : ℕ → Base → Parser TypeName
type_of_base n b = brackets site.Elsewhere n 0 >>= λ d. pure (record { base = b; dims = d })

abbrev pub type_by : ℕ → Site → TypeBeginning → Parser TypeName
type_by n w typed.Int = skip (type_of_base n base.Int)
type_by n w typed.Bool = skip (type_of_base n base.Bool)
type_by n w typed.Name = taken (λ t. type_of_base n (base.Named t.word))
type_by n w typed.Nothing = refuse w

unfoldable pub type_name : ℕ → Site → Parser TypeName
type_name n w = look (λ k. type_by n w (type_beginning k))

-- ---- expressions

-- where the reading of an expression begins: at its first token, or behind tokens of it that were taken to see what begins
pub data Begin : Type 0 where
  fresh : Begin
  behind_name : ℕ → List ℕ → Begin
  -- behind a name and `[`
  behind_bracket : ℕ → List ℕ → Begin
  behind_this : ℕ → Begin
  behind_super : ℕ → Begin

abbrev pub start_of : Begin → Lexemes → ℕ
start_of fresh i = first_at i
start_of (behind_name at x) i = at
start_of (behind_bracket at x) i = at
start_of (behind_this at) i = at
start_of (behind_super at) i = at

-- an expression with its height
abbrev pub Read : Type 0
Read = PlainExpr × ℕ

-- how the parts of an expression are read, from a least level on
abbrev pub Inner : Type 0
Inner = Begin → ℕ → Parser Read

-- how tight what follows binds the operand before it; 0 where nothing follows
abbrev pub binds : Joining → ℕ
binds (join.Assign o) = level.assignment
binds join.Question = level.conditional
binds (join.Binary o) = operator_level o
binds join.InstanceOf = level.relational
binds (join.Step plus) = level.unary
binds join.Dot = level.primary
binds join.Bracket = level.primary
binds join.Nothing = level.none

-- the least level of the expression behind it: an assignment and a conditional go on with one of their own level, so that
-- they associate to the right, a binary operator with a tighter one
abbrev pub level_behind : Joining → ℕ
level_behind (join.Assign o) = level.assignment
level_behind join.Question = level.conditional
level_behind (join.Binary o) = suc (operator_level o)
level_behind _ = level.assignment

abbrev pub is_primary : PlainExpr → Bool
is_primary (tree.unary at o x) = false
is_primary (tree.step at plus post x) = false
is_primary (tree.cast at ty x) = false
is_primary (tree.binary at o l r) = false
is_primary (tree.instance_of at x ty) = false
is_primary (tree.conditional at c l r) = false
is_primary (tree.assign at o l r) = false
is_primary _ = true

abbrev pub is_type_test : PlainExpr → Bool
is_type_test (tree.instance_of at x ty) = true
is_type_test _ = false

-- whether it may follow such an expression; behind a type no tighter operator goes on
abbrev pub allows : Joining → PlainExpr → Bool
allows (join.Binary o) x = nat_le (operator_level o) level.relational || not (is_type_test x)
allows (join.Assign o) x = is_place x
allows (join.Step plus) x = is_place x
allows join.Dot x = is_primary x
allows join.Bracket x = is_primary x && not (is_array_creation x)
allows _ x = true

unfoldable pub arguments : Inner → Parser (PlainExprs × ℕ)
arguments inner = expect mark.LeftParen site.Elsewhere >> λ i.
    if sees mark.RightParen i then (Ok (tree.no_exprs, 0), rest i)
    else (listed (inner fresh level.assignment) (inner fresh level.assignment) >>= λ es. expect mark.RightParen site.Elsewhere >> pure (exprs_from es.0, es.1)) i

-- behind a name
unfoldable pub named_operand : Inner → ℕ → List ℕ → Parser Read
named_operand inner at x = λ i.
    if sees mark.LeftParen i then (arguments inner >>= λ es. pure (tree.call at x es.0, suc es.1)) i else (Ok (tree.simple_name at x, 1), i)

unfoldable pub super_member : Inner → ℕ → List ℕ → Parser Read
super_member inner at x = λ i.
    if sees mark.LeftParen i then (arguments inner >>= λ es. pure (tree.super_call at x es.0, suc es.1)) i else (Ok (tree.super_field at x, 1), i)

-- behind `super`
unfoldable pub super_operand : Inner → ℕ → Parser Read
super_operand inner at = expect mark.Dot site.Elsewhere >> named site.Elsewhere >>= λ x. super_member inner at x

-- behind a name and `[`
unfoldable pub element_operand : Inner → ℕ → List ℕ → Parser Read
element_operand inner at x = inner fresh level.assignment >>= λ y. expect mark.RightBracket site.Elsewhere >> pure (tree.element at (tree.simple_name at x) y.0, suc (max 1 y.1))

-- behind the first `[` of the creation of an array
unfoldable pub first_length : Inner → Parser Read
first_length inner = λ i. if sees mark.RightBracket i then (Err (Refused site.FirstBracket), i) else inner fresh level.assignment i

-- behind `new` and the type
unfoldable pub array_creation : ℕ → Inner → ℕ → Base → Parser Read
array_creation zero inner at b = λ i. if sees mark.LeftBracket i then (Err TooDeep, i) else (Err (Refused site.TypeName), i)
array_creation (suc n) inner at b = expect mark.LeftBracket site.TypeName >> first_length inner >>= λ e. expect mark.RightBracket site.Elsewhere
    >> brackets site.Dimension n 0 >>= λ d. pure (tree.new_array at b e.0 (suc d), suc (max e.1 (suc d)))

unfoldable pub primitive_creation : ℕ → Inner → ℕ → Base → Parser Read
primitive_creation zero inner at b = deep
primitive_creation (suc n) inner at b = skip (array_creation (suc n) inner at b)

unfoldable pub object_creation : Inner → ℕ → List ℕ → Parser Read
object_creation inner at x = arguments inner >>= λ es i.
    if sees mark.LeftBrace i then (Err (Refused site.Creation), i) else (Ok (tree.new_object at x es.0, suc es.1), i)

unfoldable pub named_creation : ℕ → Inner → ℕ → List ℕ → Parser Read
named_creation n inner at x = λ i. if sees mark.LeftParen i then object_creation inner at x i else array_creation n inner at (base.Named x) i

abbrev pub creation_by : ℕ → Inner → ℕ → TypeBeginning → Parser Read
creation_by n inner at typed.Int = primitive_creation n inner at base.Int
creation_by n inner at typed.Bool = primitive_creation n inner at base.Bool
creation_by n inner at typed.Name = taken (λ t. named_creation n inner at t.word)
creation_by n inner at typed.Nothing = refuse site.Elsewhere

-- behind `new`
unfoldable pub creation : ℕ → Inner → ℕ → Parser Read
creation n inner at = look (λ k. creation_by n inner at (type_beginning k))

-- behind the `)` of a cast
unfoldable pub cast_operand : Inner → ℕ → TypeName → Parser Read
cast_operand inner at ty = inner fresh level.unary >>= λ x. pure (tree.cast at ty x.0, suc (max ty.dims x.1))

-- behind `(int` or `(boolean`
unfoldable pub primitive_cast : ℕ → Inner → ℕ → Base → Parser Read
primitive_cast n inner at b = brackets site.Elsewhere n 0 >>= λ d. expect mark.RightParen site.Elsewhere >> cast_operand inner at (record { base = b; dims = d })

-- behind an expression in parentheses
unfoldable pub closed : ℕ → Parser Read → Parser Read
closed at p = p >>= λ x. expect mark.RightParen site.Elsewhere >> pure (tree.paren at x.0, suc x.1)

-- behind `(`, a name and `)`
unfoldable pub class_cast : Inner → ℕ → ℕ → List ℕ → Parser Read
class_cast inner at from x = λ i.
    if begins_unsigned (terminal_at i) then cast_operand inner at (record { base = base.Named x; dims = 0 }) i
    else (Ok (tree.paren at (tree.simple_name from x), 2), i)

-- behind `(`, a name and its first pair of brackets, with room for so many more
unfoldable pub array_cast : ℕ → Inner → ℕ → List ℕ → Parser Read
array_cast n inner at x = brackets site.Elsewhere n 1 >>= λ d. expect mark.RightParen site.Elsewhere >> λ i.
    if begins_unsigned (terminal_at i) then cast_operand inner at (record { base = base.Named x; dims = d }) i else (Err (Refused site.Elsewhere), i)

-- behind `(`, a name and `[`
unfoldable pub bracket_paren : ℕ → Inner → ℕ → ℕ → List ℕ → Parser Read
bracket_paren n inner at from x = λ i.
    if sees mark.RightBracket i then skip (array_cast n inner at x) i else closed at (inner (behind_bracket from x) level.assignment) i

-- behind `(` and a name
unfoldable pub named_paren : ℕ → Inner → ℕ → ℕ → List ℕ → Parser Read
named_paren n inner at from x = λ i.
    if sees mark.RightParen i then skip (class_cast inner at from x) i
    else (if sees mark.LeftBracket i then skip (bracket_paren n inner at from x) i else closed at (inner (behind_name from x) level.assignment) i)

abbrev pub paren_by : ℕ → Inner → ℕ → TypeBeginning → Parser Read
paren_by n inner at typed.Int = skip (primitive_cast (suc n) inner at base.Int)
paren_by n inner at typed.Bool = skip (primitive_cast (suc n) inner at base.Bool)
paren_by n inner at typed.Name = λ i. taken (λ t. named_paren n inner at t.at t.word) i
paren_by n inner at typed.Nothing = closed at (inner fresh level.assignment)

-- at `(`; what it begins may be a cast where `castable`
unfoldable pub parenthesized : ℕ → Inner → Bool → ℕ → Parser Read
parenthesized zero inner castable at = deep
parenthesized (suc n) inner true at = skip (look (λ k. paren_by n inner at (type_beginning k)))
parenthesized (suc n) inner false at = skip (closed at (inner fresh level.assignment))

-- at a unary operator
unfoldable pub signed : ℕ → Inner → ℕ → UnaryOp → Parser Read
signed zero inner at o = deep
signed (suc n) inner at o = skip (inner fresh level.unary >>= λ x. pure (tree.unary at o x.0, suc x.1))

-- at `++` or `--` before a place
unfoldable pub stepped : ℕ → Inner → ℕ → Bool → Parser Read
stepped zero inner at plus = deep
stepped (suc n) inner at plus = skip (inner fresh level.primary >>= λ x. if is_place x.0 then pure (tree.step at plus false x.0, suc x.1) else refuse site.Elsewhere)

abbrev pub operand_by : ℕ → Inner → ℕ → ℕ → Beginning → Parser Read
operand_by n inner least at begin.Name = taken (λ t. named_operand inner at t.word)
operand_by n inner least at begin.Int = taken (λ t. pure (tree.int_literal at (int_value t.word) (is_decimal t.word), 1))
operand_by n inner least at (begin.Bool v) = skip (pure (tree.bool_literal at v, 1))
operand_by n inner least at begin.Null = skip (pure (tree.null_literal at, 1))
operand_by n inner least at begin.This = skip (pure (tree.this_value at, 1))
operand_by n inner least at begin.Super = skip (super_operand inner at)
operand_by n inner least at begin.New = skip (creation n inner at)
operand_by n inner least at begin.Paren = parenthesized n inner (nat_le least level.unary) at
operand_by n inner least at (begin.Signed o) = if nat_le least level.unary then signed n inner at o else refuse site.Elsewhere
operand_by n inner least at (begin.Stepped plus) = if nat_le least level.unary then stepped n inner at plus else refuse site.Elsewhere
operand_by n inner least at begin.Nothing = refuse site.Elsewhere

unfoldable pub operand : ℕ → Inner → ℕ → ℕ → Parser Read
operand n inner least at = look (λ k. operand_by n inner least at (beginning k))

abbrev pub operand_from : ℕ → Inner → ℕ → ℕ → Begin → Parser Read
operand_from n inner least at fresh = operand n inner least at
operand_from n inner least at (behind_name from x) = named_operand inner at x
operand_from n inner least at (behind_bracket from x) = element_operand inner at x
operand_from n inner least at (behind_this from) = pure (tree.this_value at, 1)
operand_from n inner least at (behind_super from) = super_operand inner at

-- behind a dot and a name
unfoldable pub dotted : Inner → ℕ → Read → List ℕ → Parser Read
dotted inner at l x = λ i.
    if sees mark.LeftParen i then (arguments inner >>= λ es. pure (tree.dot_call at l.0 x es.0, suc (max l.1 es.1))) i
    else (Ok (tree.dot at l.0 x, suc l.1), i)

unfoldable pub chosen : Inner → ℕ → Read → Parser Read
chosen inner at c = inner fresh level.assignment >>= λ l. expect mark.Colon site.Elsewhere >> inner fresh level.conditional >>= λ r. pure (tree.conditional at c.0 l.0 r.0, suc (max c.1 (max l.1 r.1)))

-- at what follows an operand
abbrev pub joined_by : ℕ → Inner → ℕ → Read → Joining → Parser Read
joined_by n inner at l (join.Assign o) = skip (inner fresh level.assignment >>= λ r. pure (tree.assign at o l.0 r.0, suc (max l.1 r.1)))
joined_by n inner at l join.Question = skip (chosen inner at l)
joined_by n inner at l (join.Binary o) = skip (inner fresh (suc (operator_level o)) >>= λ r. pure (tree.binary at o l.0 r.0, suc (max l.1 r.1)))
joined_by n inner at l join.InstanceOf = skip (type_name n site.Elsewhere >>= λ ty. pure (tree.instance_of at l.0 ty, suc (max l.1 ty.dims)))
joined_by n inner at l (join.Step plus) = skip (pure (tree.step at plus true l.0, suc l.1))
joined_by n inner at l join.Dot = skip (named site.Elsewhere >>= λ x. dotted inner at l x)
joined_by n inner at l join.Bracket = skip (inner fresh level.assignment >>= λ y. expect mark.RightBracket site.Elsewhere >> pure (tree.element at l.0 y.0, suc (max l.1 y.1)))
joined_by n inner at l join.Nothing = refuse site.Elsewhere

unfoldable pub joined : ℕ → Inner → ℕ → Read → Joining → Parser Read
joined n inner at l j = if allows j l.0 then (if nat_le l.1 n then joined_by n inner at l j else deep) else refuse site.Elsewhere

abbrev pub climb_by : (Read → Parser Read) → ℕ → Inner → ℕ → ℕ → Read → Joining → Parser Read
climb_by next n inner least at l j = if nat_lt (binds j) least then pure l else (joined n inner at l j >>= next)

-- each turn makes the tree higher, so that the room is enough for the turns
unfoldable pub climb : ℕ → Inner → ℕ → ℕ → ℕ → Read → Parser Read
climb n inner zero least at l = pure l
climb n inner (suc turns) least at l = look (λ k. climb_by (climb n inner turns least at) n inner least at l (joining k))

-- whether an expression of such a level may begin so
abbrev pub begins : ℕ → Beginning → Bool
begins least begin.Nothing = false
begins least (begin.Signed o) = nat_le least level.unary
begins least (begin.Stepped plus) = nat_le least level.unary
begins least _ = true

-- where there is no room for an expression; behind tokens of one there is always some
abbrev pub roomless : Begin → ℕ → Parser Read
roomless fresh least = look (λ k. if begins least (beginning k) then deep else refuse site.Elsewhere)
roomless _ least = deep

-- an expression of a least level, at most so high
unfoldable pub expression : ℕ → Begin → ℕ → Parser Read
expression zero b least = roomless b least
expression (suc n) b least = λ i. (operand_from n (expression n) least (start_of b i) b >>= climb n (expression n) (suc n) least (start_of b i)) i

-- ---- expressions that are statements

-- where the refused token stands behind an identifier alone
abbrev pub site_behind : Site → PlainExpr → Site
site_behind w (tree.simple_name at x) = w
site_behind w _ = site.Elsewhere

abbrev pub ended_by : ℕ → Inner → ℕ → Site → Read → Joining → Parser Read
ended_by n inner at w l (join.Assign o) = joined n inner at l (join.Assign o)
ended_by n inner at w l (join.Step plus) = joined n inner at l (join.Step plus)
ended_by n inner at w l _ = if is_statement_expression l.0 then pure l else refuse (site_behind w l.0)

-- behind a primary that begins a statement
unfoldable pub ended : ℕ → Inner → ℕ → Site → Read → Parser Read
ended n inner at w l = look (λ k. ended_by n inner at w l (joining k))

abbrev pub is_step : Beginning → Bool
is_step (begin.Stepped plus) = true
is_step _ = false

-- what goes on behind a name
abbrev pub follows_name : Terminal → Bool
follows_name k = elim (joining k) [
  | join.Assign o ↦ true
  | join.Step plus ↦ true
  | join.Dot ↦ true
  | join.Bracket ↦ true
  | _ ↦ false
]

abbrev pub roomless_statement : Begin → Site → Parser Read
roomless_statement fresh w = look (λ k. if begins level.primary (beginning k) || is_step (beginning k) then deep else refuse site.Elsewhere)
roomless_statement (behind_name at x) w = λ i. if follows_name (terminal_at i) || sees mark.LeftParen i then (Err TooDeep, i) else (Err (Refused w), i)
roomless_statement (behind_bracket at x) w = deep
roomless_statement (behind_this at) w = λ i. if sees mark.Dot i || sees mark.LeftBracket i then (Err TooDeep, i) else (Err (Refused site.Elsewhere), i)
roomless_statement (behind_super at) w = λ i. if sees mark.Dot i then (Err TooDeep, i) else (Err (Refused site.Elsewhere), i)

-- what is no statement without a selector behind it
abbrev pub needs_selector : Beginning → Bool
needs_selector begin.Int = true
needs_selector (begin.Bool v) = true
needs_selector begin.Null = true
needs_selector begin.This = true
needs_selector begin.Paren = true
needs_selector _ = false

-- an operand in a room of n + 1 with a selector above it
unfoldable pub below_selector : ℕ → ℕ → Parser Read
below_selector zero at = deep
below_selector (suc n) at = operand n (expression n) level.primary at

-- a primary that begins a statement; a selector that it needs counts at once
unfoldable pub first_primary : ℕ → Parser Read
first_primary n = λ i.
    if needs_selector (beginning (terminal_at i)) then (below_selector n (first_at i) >>= climb n (expression n) (suc n) level.primary (first_at i)) i
    else expression (suc n) fresh level.primary i

abbrev pub primary_from : ℕ → Begin → Parser Read
primary_from n fresh = first_primary n
primary_from n b = expression (suc n) b level.primary

abbrev pub statement_expression_from : ℕ → Begin → Site → Parser Read
statement_expression_from n b w = λ i. (primary_from n b >>= ended n (expression n) (start_of b i) w) i

-- an expression that may be a statement, at most so high
unfoldable pub statement_expression : ℕ → Begin → Site → Parser Read
statement_expression zero b w = roomless_statement b w
statement_expression (suc n) fresh w = λ i. if is_step (beginning (terminal_at i)) then expression (suc n) fresh level.unary i else statement_expression_from n fresh w i
statement_expression (suc n) b w = statement_expression_from n b w
