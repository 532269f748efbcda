-- The parser of statements as a function.
use Rattle.std.specs.Prelude.{ℕ, zero, suc, Bool, not, ◌||◌, List, [], ◌∷◌, length, max, Ok, if◌then◌else◌}
use Rattle.bcj_parser_trees.specs.declared.names.Base.TheVariants as base
use Rattle.bcj_parser_trees.specs.declared.names.TypeName.{TypeName}
use Rattle.bcj_parser_trees.specs.Trees as tree
use Rattle.bcj_parser_trees.specs.Trees.{PlainExpr, PlainExprs, PlainOption, PlainStmt, PlainCatch, exprs_from, stmts_from, catches_from}
use Rattle.bcj_parser_rules.specs.declared.kind.Mark.{Mark}
use Rattle.bcj_parser_rules.specs.declared.kind.Mark.TheVariants as mark
use Rattle.bcj_parser_rules.specs.declared.kind.TypeBeginning.{TypeBeginning}
use Rattle.bcj_parser_rules.specs.declared.kind.TypeBeginning.TheVariants as typed
use Rattle.bcj_parser_rules.specs.declared.kind.Heading.{Heading}
use Rattle.bcj_parser_rules.specs.declared.kind.Heading.TheVariants as heading
use Rattle.bcj_parser_rules.specs.declared.terminal.Terminal.{Terminal}
use Rattle.bcj_parser_rules.specs.declared.stop.Site.{Site}
use Rattle.bcj_parser_rules.specs.declared.stop.Site.TheVariants as site
use Rattle.bcj_parser_rules.specs.Levels as level
use Rattle.bcj_parser_rules.specs.Grammar.{Variable, at_of}
use Rattle.bcj_parser_rules.specs.Marks.{is_mark}
use Rattle.bcj_parser_rules.specs.function.Kinds.{beginning, type_beginning, heading_of}
use Rattle.bcj_parser_rules.specs.function.Steps.{Parser, ◌>>=◌, ◌>>◌, pure, refuse, deep, rest, look, here, skip, taken, sees, expect, named}
use Rattle.bcj_parser_rules.specs.function.Expressions.{listed, many, brackets, type_name, Begin, fresh, behind_name, behind_bracket, start_of, Read, Inner, expression, statement_expression, begins, is_step}

-- ---- variables

unfoldable pub variable_behind : Inner → List ℕ → Parser (Variable × ℕ)
variable_behind inner x = λ i.
    if sees mark.Assign i then skip (inner fresh level.assignment >>= λ e. pure (record { name = x; init = tree.present e.0 }, e.1)) i
    else (Ok (record { name = x; init = tree.absent }, 0), i)

unfoldable pub further_variable : Inner → Parser (Variable × ℕ)
further_variable inner = named site.Variable >>= λ x. variable_behind inner x

abbrev pub site_of_variable : Site → PlainOption → Site
site_of_variable w tree.absent = w
site_of_variable w (tree.present e) = site.Elsewhere

-- where one variable stands alone, the refused token is behind the first name
abbrev pub site_of_variables : Site → List Variable → Site
site_of_variables w [] = w
site_of_variables w (v ∷ []) = site_of_variable w v.init
site_of_variables w (v ∷ rest) = site.DeclaredName

-- behind the first name; the site is that of a token refused right there
unfoldable pub variables_behind : Inner → Site → List ℕ → Parser (List Variable × ℕ)
variables_behind inner w x = listed (variable_behind inner x) (further_variable inner) >>= λ vs. expect mark.Semicolon (site_of_variables w vs.0) >> pure vs

-- behind the type
unfoldable pub variables : Inner → Site → Parser (List Variable × ℕ)
variables inner w = named site.TypeName >>= λ x. variables_behind inner w x

-- a node for each variable
abbrev pub local_nodes : ℕ → TypeName → List Variable → List PlainStmt
local_nodes at ty [] = []
local_nodes at ty (v ∷ vs) = tree.local_variable at ty v.name v.init ∷ local_nodes at ty vs

-- ---- what begins as a declaration of locals or as an expression

-- statements with the height of the highest
abbrev pub Nodes : Type 0
Nodes = List PlainStmt × ℕ

-- behind the type; a declaration in a room of n + 1
unfoldable pub locals_of_type : ℕ → Site → ℕ → TypeName → Parser Nodes
locals_of_type n w at ty = variables (expression n) w >>= λ vs. pure (local_nodes at ty vs.0, suc (max ty.dims vs.1))

unfoldable pub typed_locals : ℕ → Site → ℕ → Parser Nodes
typed_locals n w at = type_name n site.Elsewhere >>= λ ty. locals_of_type n w at ty

unfoldable pub array_locals : ℕ → Site → ℕ → List ℕ → Parser Nodes
array_locals n w at x = brackets site.Elsewhere n 1 >>= λ d. locals_of_type (suc n) w at (record { base = base.Named x; dims = d })

-- behind a name and at `[`; where there is no room for a pair of brackets there is none for an element
abbrev pub bracket_local : ℕ → Site → (Begin → Parser Nodes) → ℕ → List ℕ → Parser Nodes
bracket_local zero w evaluation at x = deep
bracket_local (suc n) w evaluation at x = skip (λ i. if sees mark.RightBracket i then skip (array_locals n w at x) i else evaluation (behind_bracket at x) i)

unfoldable pub named_local : ℕ → Site → (Begin → Parser Nodes) → ℕ → List ℕ → Parser Nodes
named_local n w evaluation at x = λ i.
    if sees mark.Identifier i then locals_of_type n w at (record { base = base.Named x; dims = 0 }) i
    else (if sees mark.LeftBracket i then bracket_local n w evaluation at x i else evaluation (behind_name at x) i)

abbrev pub local_by : ℕ → Site → (Begin → Parser Nodes) → ℕ → TypeBeginning → Parser Nodes
local_by n w evaluation at typed.Int = typed_locals n w at
local_by n w evaluation at typed.Bool = typed_locals n w at
local_by n w evaluation at typed.Name = taken (λ t. named_local n w evaluation at t.word)
local_by n w evaluation at typed.Nothing = evaluation fresh

-- a declaration, or what is read as an expression; the site is that of a token refused behind the first name that is declared
unfoldable pub local_or : ℕ → Site → (Begin → Parser Nodes) → Parser Nodes
local_or n w evaluation = here (λ at. look (λ k. local_by n w evaluation at (type_beginning k)))

-- ---- expression statements

abbrev pub evaluation_node : ℕ → Read → PlainStmt × ℕ
evaluation_node at x = (tree.evaluate at x.0, suc x.1)

-- an expression and its semicolon, the expression at most n high
unfoldable pub evaluated : ℕ → Begin → Site → Parser (PlainStmt × ℕ)
evaluated n b w = λ i. (statement_expression n b w >>= λ x. expect mark.Semicolon site.Elsewhere >> pure (evaluation_node (start_of b i) x)) i

abbrev pub evaluation_nodes : List PlainExpr → List PlainStmt
evaluation_nodes [] = []
evaluation_nodes (x ∷ xs) = tree.evaluate (at_of x) x ∷ evaluation_nodes xs

-- expressions with commas between, up to a closing terminal
unfoldable pub evaluations : ℕ → Begin → Site → Mark → Parser (List PlainExpr × ℕ)
evaluations n b w closing = listed (statement_expression n b w) (statement_expression n fresh site.Elsewhere) >>= λ es. expect closing site.Elsewhere >> pure es

-- ---- the parts of statements

unfoldable pub condition : ℕ → Parser Read
condition n = expect mark.LeftParen site.Elsewhere >> expression n fresh level.assignment >>= λ c. expect mark.RightParen site.Elsewhere >> pure c

unfoldable pub maybe_expression : ℕ → Parser (PlainOption × ℕ)
maybe_expression n = λ i.
    if sees mark.Semicolon i then (Ok (tree.absent, 0), rest i)
    else (expression n fresh level.assignment >>= λ x. expect mark.Semicolon site.Elsewhere >> pure (tree.present x.0, x.1)) i

-- the expressions that begin a `for`, each a node in a room of n + 1
unfoldable pub init_evaluations : ℕ → Begin → Parser Nodes
init_evaluations n b = evaluations n b site.TypeName mark.Semicolon >>= λ es. pure (evaluation_nodes es.0, suc es.1)

unfoldable pub for_init : ℕ → Parser Nodes
for_init n = λ i. if sees mark.Semicolon i then (Ok ([], 0), rest i) else local_or n site.LoopName (init_evaluations n) i

unfoldable pub for_update : ℕ → Parser (PlainExprs × ℕ)
for_update n = λ i.
    if sees mark.RightParen i then (Ok (tree.no_exprs, 0), rest i)
    else (evaluations n fresh site.Elsewhere mark.RightParen >>= λ es. pure (exprs_from es.0, es.1)) i

abbrev pub is_inside : Terminal → Bool
is_inside k = not (is_mark mark.RightBrace k)

-- ---- statements, over the parser of statements of the room that parts have

abbrev pub Statements : Type 0
Statements = Parser (PlainStmt × ℕ)

abbrev pub one_node : PlainStmt × ℕ → Nodes
one_node x = (x.0 ∷ [], x.1)

abbrev pub block_evaluation : ℕ → Statements → Begin → Parser Nodes
block_evaluation n statement fresh = statement >>= λ x. pure (one_node x)
block_evaluation n statement b = evaluated n b site.DeclarationName >>= λ x. pure (one_node x)

abbrev pub roomless_local : Statements → TypeBeginning → Parser Nodes
roomless_local statement typed.Nothing = statement >>= λ x. pure (one_node x)
roomless_local statement _ = deep

-- a statement of a block, or a declaration, at most so high
unfoldable pub block_statement : ℕ → Statements → Parser Nodes
block_statement zero statement = look (λ k. roomless_local statement (type_beginning k))
block_statement (suc n) statement = local_or n site.DeclaredName (block_evaluation n statement)

unfoldable pub statements_from : ℕ → Statements → List PlainStmt → ℕ → Parser Nodes
statements_from n statement found high = λ i. many is_inside (block_statement n statement) (length i) found high i

unfoldable pub block : ℕ → Statements → Site → Parser Nodes
block n statement w = expect mark.LeftBrace w >> statements_from n statement [] 0 >>= λ ss. expect mark.RightBrace site.Elsewhere >> pure ss

unfoldable pub otherwise : Statements → ℕ → Read → PlainStmt × ℕ → Parser (PlainStmt × ℕ)
otherwise statement at c x = λ i.
    if sees mark.Else i then skip (statement >>= λ y. pure (tree.if_else at c.0 x.0 (tree.else_with y.0), suc (max c.1 (max x.1 y.1)))) i
    else (Ok (tree.if_else at c.0 x.0 tree.no_else, suc (max c.1 x.1)), i)

unfoldable pub if_statement : ℕ → Statements → ℕ → Parser (PlainStmt × ℕ)
if_statement zero statement at = deep
if_statement (suc n) statement at = skip (condition (suc n) >>= λ c. statement >>= λ x. otherwise statement at c x)

unfoldable pub while_statement : ℕ → Statements → ℕ → Parser (PlainStmt × ℕ)
while_statement zero statement at = deep
while_statement (suc n) statement at = skip (condition (suc n) >>= λ c. statement >>= λ x. pure (tree.while_loop at c.0 x.0, suc (max c.1 x.1)))

unfoldable pub do_statement : ℕ → Statements → ℕ → Parser (PlainStmt × ℕ)
do_statement zero statement at = deep
do_statement (suc n) statement at = skip (statement >>= λ x. expect mark.While site.Elsewhere >> condition (suc n) >>= λ c. expect mark.Semicolon site.Elsewhere
    >> pure (tree.do_loop at x.0 c.0, suc (max x.1 c.1)))

unfoldable pub for_statement : ℕ → Statements → ℕ → Parser (PlainStmt × ℕ)
for_statement zero statement at = deep
for_statement (suc n) statement at = skip (expect mark.LeftParen site.Elsewhere >> for_init n >>= λ is. maybe_expression (suc n) >>= λ c. for_update (suc n) >>= λ es. statement >>= λ x.
    pure (tree.for_loop at (stmts_from is.0) c.0 es.0 x.0, suc (max is.1 (max c.1 (max es.1 x.1)))))

unfoldable pub throw_statement : ℕ → ℕ → Parser (PlainStmt × ℕ)
throw_statement zero at = deep
throw_statement (suc n) at = skip (expression (suc n) fresh level.assignment >>= λ x. expect mark.Semicolon site.Elsewhere >> pure (tree.throw at x.0, suc x.1))

unfoldable pub catch_clause : ℕ → Statements → Parser (List PlainCatch × ℕ)
catch_clause n statement = expect mark.Catch site.Elsewhere >> expect mark.LeftParen site.Elsewhere >> named site.Catch >>= λ c. named site.CatchClass >>= λ x. expect mark.RightParen site.CatchName
    >> block n statement site.Elsewhere >>= λ ss. pure (tree.catch_of_class c x (stmts_from ss.0) ∷ [], ss.1)

-- one or more
unfoldable pub catch_clauses : ℕ → Statements → Parser (List PlainCatch × ℕ)
catch_clauses n statement = catch_clause n statement >>= λ c i. many (is_mark mark.Catch) (catch_clause n statement) (length i) c.0 c.1 i

unfoldable pub try_statement : ℕ → Statements → ℕ → Parser (PlainStmt × ℕ)
try_statement n statement at = skip (block n statement site.Elsewhere >>= λ ss. catch_clauses n statement >>= λ cs. pure (tree.try_catch at (stmts_from ss.0) (catches_from cs.0), suc (max ss.1 cs.1)))

abbrev pub statement_by : ℕ → Statements → ℕ → Heading → Parser (PlainStmt × ℕ)
statement_by n statement at heading.Block = block n statement site.Elsewhere >>= λ ss. pure (tree.block at (stmts_from ss.0), suc ss.1)
statement_by n statement at heading.Empty = skip (pure (tree.empty at, 1))
statement_by n statement at heading.If = if_statement n statement at
statement_by n statement at heading.While = while_statement n statement at
statement_by n statement at heading.Do = do_statement n statement at
statement_by n statement at heading.For = for_statement n statement at
statement_by n statement at heading.Return = skip (maybe_expression n >>= λ v. pure (tree.return_with at v.0, suc v.1))
statement_by n statement at heading.Throw = throw_statement n at
statement_by n statement at heading.Break = skip (expect mark.Semicolon site.Elsewhere >> pure (tree.break_loop at, 1))
statement_by n statement at heading.Continue = skip (expect mark.Semicolon site.Elsewhere >> pure (tree.continue_loop at, 1))
statement_by n statement at heading.Try = try_statement n statement at
statement_by n statement at heading.Other = evaluated n fresh site.StatementName

abbrev pub roomless_by : Terminal → Heading → Parser (PlainStmt × ℕ)
roomless_by k heading.Other = if begins level.primary (beginning k) || is_step (beginning k) then deep else refuse site.Elsewhere
roomless_by k _ = deep

-- a statement that is no declaration, at most so high
unfoldable pub statement : ℕ → Statements
statement zero = look (λ k. roomless_by k (heading_of k))
statement (suc n) = here (λ at. look (λ k. statement_by n (statement n) at (heading_of k)))
