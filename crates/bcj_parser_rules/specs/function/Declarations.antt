-- The parser of members, types and units as a function. Parts of members are at most r + 1 high, members r + 2 and types r + 3.
use Rattle.std.specs.Prelude.{ℕ, zero, suc, ◌-◌, Bool, true, false, not, ◌&&◌, List, [], ◌∷◌, ◌++◌, length, max, Option, Some, None, Ok, Err, if◌then◌else◌}
use Rattle.bcj_parser_trees.specs.declared.names.Base.TheVariants as base
use Rattle.bcj_parser_trees.specs.declared.names.TypeName.{TypeName}
use Rattle.bcj_parser_trees.specs.declared.names.Mods.{Mods}
use Rattle.bcj_parser_trees.specs.declared.names.Param.{Param}
use Rattle.bcj_parser_trees.specs.Trees as tree
use Rattle.bcj_parser_trees.specs.Trees.{PlainStmt, PlainBody, PlainFirst, PlainMember, PlainType, PlainUnit, stmts_from}
use Rattle.bcj_parser_rules.specs.declared.kind.Mark.{Mark}
use Rattle.bcj_parser_rules.specs.declared.kind.Mark.TheVariants as mark
use Rattle.bcj_parser_rules.specs.declared.kind.TypeBeginning.{TypeBeginning}
use Rattle.bcj_parser_rules.specs.declared.kind.TypeBeginning.TheVariants as typed
use Rattle.bcj_parser_rules.specs.declared.kind.UnitBeginning.{UnitBeginning}
use Rattle.bcj_parser_rules.specs.declared.kind.UnitBeginning.TheVariants as unit_begin
use Rattle.bcj_parser_rules.specs.declared.stop.Site.{Site}
use Rattle.bcj_parser_rules.specs.declared.stop.Site.TheVariants as site
use Rattle.bcj_parser_rules.specs.declared.stop.Stop.TheVariants.{Refused, TooMany}
use Rattle.bcj_parser_rules.specs.Limits.{max_height}
use Rattle.bcj_parser_rules.specs.Lexemes.{first_at}
use Rattle.bcj_parser_rules.specs.Grammar.{Variable, no_mods, with_modifier}
use Rattle.bcj_parser_rules.specs.Lexemes.{terminal_at}
use Rattle.bcj_parser_rules.specs.function.Kinds.{type_beginning, unit_beginning}
use Rattle.bcj_parser_rules.specs.function.Steps.{Parser, ◌>>=◌, ◌>>◌, pure, refuse, rest, look, skip, taken, sees, expect, named}
use Rattle.bcj_parser_rules.specs.function.Expressions.{listed, many, brackets, type_name, Begin, behind_this, behind_super, arguments, expression}
use Rattle.bcj_parser_rules.specs.function.Statements.{variables_behind, is_inside, block, statements_from, evaluated, statement}

-- ---- names and parameters

unfoldable pub one_name : Site → Parser (List ℕ × ℕ)
one_name w = named w >>= λ x. pure (x, 0)

-- one or more
unfoldable pub names : Parser (List (List ℕ))
names = listed (one_name site.Elsewhere) (one_name site.Elsewhere) >>= λ ns. pure ns.0

unfoldable pub names_behind : Mark → Parser (List (List ℕ))
names_behind k = λ i. if sees k i then skip names i else (Ok [], i)

unfoldable pub parameter : ℕ → Parser (Param × ℕ)
parameter n = type_name n site.Elsewhere >>= λ ty. named site.TypeName >>= λ x. pure (record { ty = ty; name = x }, ty.dims)

unfoldable pub parameters : ℕ → Parser (List Param × ℕ)
parameters n = expect mark.LeftParen site.DeclaredName >> λ i.
    if sees mark.RightParen i then (Ok ([], 0), rest i)
    else (listed (parameter n) (parameter n) >>= λ ps. expect mark.RightParen site.DeclaredName >> pure ps) i

-- ---- members

abbrev pub modifiers_by : (Mods → Parser Mods) → Mods → Option Mods → Parser Mods
modifiers_by next mods None = pure mods
modifiers_by next mods (Some more) = skip (next more)

unfoldable pub modifiers : ℕ → Mods → Parser Mods
modifiers zero mods = pure mods
modifiers (suc turns) mods = look (λ k. modifiers_by (modifiers turns) mods (with_modifier k mods))

abbrev pub site_behind_throws : List (List ℕ) → Site
site_behind_throws [] = site.DeclaredName
site_behind_throws (x ∷ xs) = site.TypeName

-- a block, or a semicolon; an interface has no block
unfoldable pub method_body : ℕ → Bool → Site → Parser (PlainBody × ℕ)
method_body r interface w = λ i.
    if sees mark.Semicolon i then (Ok (tree.no_body, 0), rest i)
    else (if interface then (Err (Refused w), i) else (block (suc r) (statement (suc r)) w >>= λ ss. pure (tree.with_body (stmts_from ss.0), ss.1)) i)

abbrev pub Members : Type 0
Members = List PlainMember × ℕ

-- behind the name
unfoldable pub method_rest : ℕ → Bool → ℕ → Mods → TypeName → List ℕ → Parser Members
method_rest r interface at mods ty x = parameters (suc r) >>= λ ps. names_behind mark.Throws >>= λ ts. method_body r interface (site_behind_throws ts) >>= λ b.
    pure (tree.method_member at mods ty x ps.0 ts b.0 ∷ [], suc (max ty.dims (max ps.1 b.1)))

-- the first call with its height, and the statements behind it with theirs
pub record Body : Type 0 where
  pub first : PlainFirst
  pub first_high : ℕ
  pub statements : List PlainStmt
  pub high : ℕ

unfoldable pub body_from : ℕ → PlainFirst → ℕ → List PlainStmt → ℕ → Parser Body
body_from r call call_high found high = statements_from (suc r) (statement (suc r)) found high >>= λ ss. pure (record { first = call; first_high = call_high; statements = ss.0; high = ss.1 })

unfoldable pub first_call : ℕ → ℕ → Bool → Parser Body
first_call r at to_super = arguments (expression r) >>= λ es. expect mark.Semicolon site.Elsewhere >> body_from r (tree.first_call at to_super es.0) (suc es.1) [] 0

-- behind `this` or `super`
unfoldable pub begun_body : ℕ → ℕ → Bool → Begin → Parser Body
begun_body r at to_super b = λ i.
    if sees mark.LeftParen i then first_call r at to_super i
    else (evaluated r b site.Elsewhere >>= λ x. body_from r tree.no_first 0 (x.0 ∷ []) x.1) i

unfoldable pub constructor_body : ℕ → Parser Body
constructor_body r = λ i.
    if sees mark.This i then skip (begun_body r (first_at i) false (behind_this (first_at i))) i
    else (if sees mark.Super i then skip (begun_body r (first_at i) true (behind_super (first_at i))) i else body_from r tree.no_first 0 [] 0 i)

-- behind the name
unfoldable pub constructor : ℕ → ℕ → Mods → List ℕ → Parser Members
constructor r at mods x = parameters (suc r) >>= λ ps. names_behind mark.Throws >>= λ ts. expect mark.LeftBrace (site_behind_throws ts) >> constructor_body r >>= λ b. expect mark.RightBrace site.Elsewhere
    >> pure (tree.constructor_member at mods x ps.0 ts b.first (stmts_from b.statements) ∷ [], suc (max ps.1 (max b.first_high b.high)))

abbrev pub field_nodes : ℕ → Mods → TypeName → List Variable → List PlainMember
field_nodes at mods ty [] = []
field_nodes at mods ty (v ∷ vs) = tree.field_member at mods ty v.name v.init ∷ field_nodes at mods ty vs

-- behind the type and a name
unfoldable pub field_or_method : ℕ → Bool → ℕ → Mods → TypeName → List ℕ → Parser Members
field_or_method r interface at mods ty x = λ i.
    if sees mark.LeftParen i then (if mods.is_final then (Err (Refused site.FinalMember), i) else method_rest r interface at mods ty x i)
    else (variables_behind (expression (suc r)) site.DeclaredName x >>= λ vs. pure (field_nodes at mods ty vs.0, suc (max ty.dims vs.1))) i

unfoldable pub typed_member : ℕ → Bool → ℕ → Mods → Parser Members
typed_member r interface at mods = type_name (suc r) site.Elsewhere >>= λ ty. named site.TypeName >>= λ x. field_or_method r interface at mods ty x

abbrev pub constructor_or_refused : ℕ → Bool → ℕ → Mods → List ℕ → Parser Members
constructor_or_refused r true at mods x = refuse site.Elsewhere
constructor_or_refused r false at mods x = if mods.is_final then refuse site.FinalMember else constructor r at mods x

-- behind a name that is a type's or a constructor's
unfoldable pub named_member : ℕ → Bool → ℕ → Mods → List ℕ → Parser Members
named_member r interface at mods x = λ i.
    if sees mark.LeftParen i then constructor_or_refused r interface at mods x i
    else (brackets site.Elsewhere (suc r) 0 >>= λ d. named site.TypeName >>= λ y. field_or_method r interface at mods (record { base = base.Named x; dims = d }) y) i

abbrev pub member_by : ℕ → Bool → ℕ → Mods → TypeBeginning → Parser Members
member_by r interface at mods typed.Int = typed_member r interface at mods
member_by r interface at mods typed.Bool = typed_member r interface at mods
member_by r interface at mods typed.Name = taken (λ t. named_member r interface at mods t.word)
member_by r interface at mods typed.Nothing = refuse site.Member

abbrev pub void_method : ℕ → Bool → ℕ → Mods → Parser Members
void_method r interface at mods =
    if mods.is_final then refuse site.FinalMember
    else skip (named site.Elsewhere >>= λ x. method_rest r interface at mods (record { base = base.Void; dims = 0 }) x)

-- behind the modifiers
unfoldable pub member_behind : ℕ → Bool → ℕ → Mods → Parser Members
member_behind r interface at mods = λ i. if sees mark.Void i then void_method r interface at mods i else member_by r interface at mods (type_beginning (terminal_at i)) i

-- behind the modifiers that stand first
unfoldable pub modified_member : ℕ → Bool → ℕ → Mods → Parser Members
modified_member r interface at mods = λ i. (modifiers (length i) mods >>= λ more. member_behind r interface at more) i

-- behind `static` in a class
unfoldable pub static_member : ℕ → ℕ → Parser Members
static_member r at = λ i.
    if sees mark.LeftBrace i then (block (suc r) (statement (suc r)) site.Elsewhere >>= λ ss. pure (tree.static_member at (stmts_from ss.0) ∷ [], suc ss.1)) i
    else modified_member r false at (record no_mods { is_static = true }) i

unfoldable pub member : ℕ → Bool → Parser Members
member r interface = λ i.
    if sees mark.Semicolon i then (Ok ([], 0), rest i)
    else (if sees mark.Static i && not interface then skip (static_member r (first_at i)) i else modified_member r interface (first_at i) no_mods i)

-- up to the closing brace and behind it
unfoldable pub members : ℕ → Bool → Parser Members
members r interface = λ i. (many is_inside (member r interface) (length i) [] 0 >>= λ ms. expect mark.RightBrace site.Elsewhere >> pure ms) i

-- ---- types

abbrev pub type_modifiers_by : (Bool → Parser Bool) → Bool → UnitBeginning → Parser Bool
type_modifiers_by next b unit_begin.Public = skip (next b)
type_modifiers_by next b unit_begin.Abstract = skip (next true)
type_modifiers_by next b _ = pure b

-- whether `abstract` is among them
unfoldable pub type_modifiers : ℕ → Bool → Parser Bool
type_modifiers zero b = pure b
type_modifiers (suc turns) b = look (λ k. type_modifiers_by (type_modifiers turns) b (unit_beginning k))

unfoldable pub superclass : Parser (List (List ℕ))
superclass = λ i. if sees mark.Extends i then skip (named site.Elsewhere >>= λ x. pure (x ∷ [])) i else (Ok [], i)

abbrev pub site_behind_header : List (List ℕ) → List (List ℕ) → Site
site_behind_header [] [] = site.HeaderName
site_behind_header _ _ = site.TypeName

unfoldable pub class_rest : ℕ → ℕ → Bool → Parser (PlainType × ℕ)
class_rest r at b = named site.Elsewhere >>= λ x. superclass >>= λ es. names_behind mark.Implements >>= λ is. expect mark.LeftBrace (site_behind_header es is) >> members r false >>= λ ms.
    pure (record { at = at; interface = false; is_abstract = b; name = x; extends = es; implements = is; members = ms.0 }, suc ms.1)

unfoldable pub interface_rest : ℕ → ℕ → Bool → Parser (PlainType × ℕ)
interface_rest r at b = named site.Elsewhere >>= λ x. names_behind mark.Extends >>= λ es. expect mark.LeftBrace (site_behind_header es []) >> members r true >>= λ ms.
    pure (record { at = at; interface = true; is_abstract = b; name = x; extends = es; implements = []; members = ms.0 }, suc ms.1)

abbrev pub type_by_word : ℕ → ℕ → Bool → UnitBeginning → Parser (PlainType × ℕ)
type_by_word r at b unit_begin.Class = skip (class_rest r at b)
type_by_word r at b unit_begin.Interface = skip (interface_rest r at b)
type_by_word r at b _ = refuse site.Elsewhere

unfoldable pub type_declaration : ℕ → Parser (PlainType × ℕ)
type_declaration r = λ i. (type_modifiers (length i) false >>= λ b. look (λ k. type_by_word r (first_at i) b (unit_beginning k))) i

-- ---- units

abbrev pub unit_end : PlainUnit → ℕ → Parser (PlainUnit × ℕ)
unit_end found high [] = (Ok (found, high), [])
unit_end found high (t ∷ i) = (Err (Refused site.Elsewhere), t ∷ i)

-- a type, where so many more may follow
abbrev pub type_within : ℕ → (ℕ → PlainType × ℕ → Parser (PlainUnit × ℕ)) → ℕ → Parser (PlainUnit × ℕ)
type_within r next zero = λ i. (Err TooMany, i)
type_within r next (suc left) = type_declaration r >>= next left

abbrev pub unit_by : ℕ → (ℕ → PlainUnit → ℕ → Parser (PlainUnit × ℕ)) → ℕ → PlainUnit → ℕ → UnitBeginning → Parser (PlainUnit × ℕ)
unit_by r next limit found high unit_begin.Semicolon = skip (next limit found high)
unit_by r next limit found high unit_begin.Nothing = unit_end found high
unit_by r next limit found high _ = type_within r (λ left d. next left (found ++ d.0 ∷ []) (max high d.1)) limit

-- so many types at most
unfoldable pub types_from : ℕ → ℕ → ℕ → PlainUnit → ℕ → Parser (PlainUnit × ℕ)
types_from r zero limit found high = unit_end found high
types_from r (suc turns) limit found high = look (λ k. unit_by r (types_from r turns) limit found high (unit_beginning k))

-- a type, a member and a statement stand above the expressions of a unit
abbrev pub levels_above : ℕ
levels_above = 3

-- how high these may be in a unit of the greatest height
abbrev pub unit_room : ℕ
unit_room = max_height - levels_above

-- the whole text: types at most so much above r high, at most so many
unfoldable pub unit : ℕ → ℕ → Parser (PlainUnit × ℕ)
unit r limit = λ i. types_from r (length i) limit [] 0 i
