-- What is read as a statement is one.
use Rattle.std.proofs.Common.{◌≡◌, ℕ, zero, suc, ◌≤◌, max, Bool, true, false, ◌||◌, List, [], ◌∷◌, ◌++◌, length, refl, sym, ap, ◌∙◌, subst, if◌then◌else◌, arith}
use Rattle.bcj_parser_trees.specs.declared.names.Base.TheVariants as base
use Rattle.bcj_parser_trees.specs.declared.names.TypeName.{TypeName}
use Rattle.bcj_parser_trees.specs.Trees as tree
use Rattle.bcj_parser_trees.specs.Trees.{PlainExpr, PlainExprs, PlainOption, PlainStmt, PlainStmts, PlainCatch, PlainCatches, exprs_from, stmts_from, catches_from}
use Rattle.bcj_parser_rules.specs.declared.kind.Mark.{Mark}
use Rattle.bcj_parser_rules.specs.declared.kind.Mark.TheVariants as mark
use Rattle.bcj_parser_rules.specs.declared.kind.TypeBeginning.{TypeBeginning}
use Rattle.bcj_parser_rules.specs.declared.kind.TypeBeginning.TheVariants as typed
use Rattle.bcj_parser_rules.specs.declared.kind.Heading.{Heading}
use Rattle.bcj_parser_rules.specs.declared.kind.Heading.TheVariants as heading
use Rattle.bcj_parser_rules.specs.declared.terminal.Terminal.{Terminal}
use Rattle.bcj_parser_rules.specs.declared.terminal.Terminal.TheVariants as terminal
use Rattle.bcj_parser_rules.specs.declared.stop.Site.{Site}
use Rattle.bcj_parser_rules.specs.declared.stop.Site.TheVariants as site
use Rattle.bcj_parser_rules.specs.Lexemes.{Lexeme, Lexemes}
use Rattle.bcj_parser_rules.specs.Grammar as g
use Rattle.bcj_parser_rules.specs.Lexemes.{first_at}
use Rattle.bcj_parser_rules.specs.Grammar.{Derives, TypeRead, type_read, Variable, VariableRead, Variables, locals_of, Evaluations, at_of, evaluations_of, ForInit, MaybeExpr, ForUpdate, Statement, Block, Statements, Catches, goes_on_with_else}
use Rattle.bcj_parser_rules.specs.Lexemes.{terminal_at}
use Rattle.bcj_parser_rules.specs.Marks.{is_mark}
use Rattle.bcj_parser_rules.specs.function.Kinds.{terminal_of_mark, beginning, type_beginning, heading_of}
use Rattle.bcj_parser_rules.specs.function.Steps.{Parser, ◌>>=◌, ◌>>◌, expect, pure, refuse, deep}
use Rattle.bcj_parser_rules.specs.function.Expressions.{Begin, fresh, behind_name, behind_bracket, behind_this, behind_super, Read, Inner, expression, statement_expression, begins, is_step}
use Rattle.bcj_parser_rules.specs.function.Statements as parser
use Rattle.bcj_parser_rules.specs.function.Statements.{variable_behind, further_variable, site_of_variables, variables_behind, variables, local_nodes, Nodes, locals_of_type, typed_locals, array_locals, bracket_local, named_local, local_by, local_or, evaluation_node, evaluated, evaluation_nodes, evaluations, condition, maybe_expression, init_evaluations, for_init, for_update, is_inside, one_node, block_evaluation, roomless_local, block_statement, statements_from, block, otherwise, if_statement, while_statement, do_statement, for_statement, throw_statement, catch_clause, catch_clauses, try_statement, statement_by, roomless_by, statement}
use Rattle.bcj_parser_soundness.proofs.Terminals.{TypeBeginsSo, type_begins_so, HeadsSo, heads_so, else_is_seen}
use Rattle.bcj_parser_soundness.proofs.Outcomes as outcome
use Rattle.bcj_parser_soundness.proofs.Outcomes.{Meets, Failed, read, refused, bind, weaken, choose, choose_by, choose_else_by, expect_terminal, expect_name, bind_terminal}
use Rattle.bcj_parser_soundness.proofs.Lists.{Separated, single, further, Repeated, done, again, max_none, listed_sound, many_sound, Further, further_sound, separated_within, repeated_within, brackets_sound, pairs_behind, TypeWithin, type_name_sound}
use Rattle.bcj_parser_soundness.proofs.Derived.{Begun, from_start, from_name, from_bracket, start_is_first}
use Rattle.bcj_parser_soundness.proofs.Operands.{InnerSound, fresh_sound}
use Rattle.bcj_parser_soundness.proofs.Expressions.{expression_sound, Evaluated, statement_expression_sound}

-- ---- variables

record VariableWithin (n : ℕ) (i : Lexemes) (p : Variable × ℕ) (a : Lexemes) : Type 0 where
  read : VariableRead i a p.0 p.1
  low : p.1 ≤ n

pub record VariablesWithin (n : ℕ) (i : Lexemes) (p : List Variable × ℕ) (a : Lexemes) : Type 0 where
  pub read : Variables i a p.0 p.1
  pub low : p.1 ≤ n

variable_behind_sound : (n : ℕ) (inner : Inner) → InnerSound n inner → (t : Lexeme) → t.terminal ≡ terminal.Identifier → (i : Lexemes) → Meets (VariableWithin n (t ∷ i)) Failed (variable_behind inner t.word i)
unfolding variable_behind
variable_behind_sound n inner h t e = choose (λ i. VariableWithin n (t ∷ i)) mark.Assign _ _
    (λ u f i. bind (fresh_sound n inner h 1 (omega arith) i) (λ x a q. read (record { read = g.initialiser e f q.derives; low = q.low })))
    (λ i. read (record { read = g.no_initialiser e; low = omega arith }))

further_variable_sound : (n : ℕ) (inner : Inner) → InnerSound n inner → (i : Lexemes) → Meets (VariableWithin n i) Failed (further_variable inner i)
unfolding further_variable
further_variable_sound n inner h = expect_name (VariableWithin n) _ _ (λ t e i. variable_behind_sound n inner h t e i)

variables_of : {n h : ℕ} {t : Lexeme} {i a : Lexemes} {vs : List Variable} → Separated (VariableWithin n) i (t ∷ a) vs h → t.terminal ≡ terminal.Semicolon → Variables i a vs h
variables_of (single d) e = g.last_variable d.read e
variables_of (further d c q) e = g.more_variables d.read c (variables_of q e)

pub variables_behind_sound : (n : ℕ) (inner : Inner) (w : Site) → InnerSound n inner → (t : Lexeme) → t.terminal ≡ terminal.Identifier → (i : Lexemes)
    → Meets (VariablesWithin n (t ∷ i)) Failed (variables_behind inner w t.word i)
unfolding variables_behind
variables_behind_sound n inner w h t e i = bind_terminal mark.Semicolon (λ vs. site_of_variables w vs.0)
    (listed_sound (variable_behind inner t.word) (further_variable inner) (t ∷ i) i (variable_behind_sound n inner h t e i) (further_variable_sound n inner h))
    (λ vs u f a q. read (record { read = variables_of q f; low = separated_within n (λ i x a r. r.low) q }))

variables_sound : (n : ℕ) (inner : Inner) (w : Site) → InnerSound n inner → (i : Lexemes) → Meets (VariablesWithin n i) Failed (variables inner w i)
unfolding variables
variables_sound n inner w h = expect_name (VariablesWithin n) _ _ (λ t e i. variables_behind_sound n inner w h t e i)

locals_onto : (at : ℕ) (ty : TypeName) (vs : List Variable) (ss : List PlainStmt) → stmts_from (local_nodes at ty vs ++ ss) ≡ locals_of at ty vs (stmts_from ss)
locals_onto at ty [] ss = refl
locals_onto at ty (v ∷ vs) ss = ap (tree.more_stmts (tree.local_variable at ty v.name v.init)) (locals_onto at ty vs ss)

locals_alone : (at : ℕ) (ty : TypeName) (vs : List Variable) → stmts_from (local_nodes at ty vs) ≡ locals_of at ty vs tree.no_stmts
locals_alone at ty [] = refl
locals_alone at ty (v ∷ vs) = ap (tree.more_stmts (tree.local_variable at ty v.name v.init)) (locals_alone at ty vs)

-- ---- what begins as a declaration of locals or as an expression

-- a declaration of locals is such a thing
abbrev TakesLocals : ℕ → (Lexemes → Nodes → Lexemes → Type 0) → Type 0
TakesLocals n P = (j i a : Lexemes) (ty : TypeName) (vs : List Variable) (g : ℕ) → TypeRead j i ty → Variables i a vs g → ty.dims ≤ n → g ≤ n → P j (local_nodes (first_at j) ty vs, suc (max ty.dims g)) a

-- and so is what is read as an expression
abbrev TakesEvaluations : (Lexemes → Nodes → Lexemes → Type 0) → (Begin → Parser Nodes) → Type 0
TakesEvaluations P evaluation = (b : Begin) (j i : Lexemes) → Begun b j i → Meets (P j) Failed (evaluation b i)

locals_of_type_sound : (n : ℕ) (w : Site) (P : Lexemes → Nodes → Lexemes → Type 0) → TakesLocals n P → (j i : Lexemes) (ty : TypeName) → TypeWithin n j ty i
    → Meets (P j) Failed (locals_of_type n w (first_at j) ty i)
unfolding locals_of_type
locals_of_type_sound n w P makes j i ty q = bind (variables_sound n (expression n) w (expression_sound n) i) (λ vs a r. read (makes j i a ty vs.0 vs.1 q.read r.read q.low r.low))

typed_locals_sound : (n : ℕ) (w : Site) (P : Lexemes → Nodes → Lexemes → Type 0) → TakesLocals n P → (i : Lexemes) → Meets (P i) Failed (typed_locals n w (first_at i) i)
unfolding typed_locals
typed_locals_sound n w P makes i = bind (type_name_sound n site.Elsewhere i) (λ ty k q. locals_of_type_sound n w P makes i k ty q)

array_locals_sound : (n : ℕ) (w : Site) (P : Lexemes → Nodes → Lexemes → Type 0) → TakesLocals (suc n) P → (t u v : Lexeme) → t.terminal ≡ terminal.Identifier → u.terminal ≡ terminal.LeftBracket → v.terminal ≡ terminal.RightBracket
    → (i : Lexemes) → Meets (P (t ∷ u ∷ v ∷ i)) Failed (array_locals n w t.at t.word i)
unfolding array_locals
array_locals_sound n w P makes t u v e f k i = bind (brackets_sound site.Elsewhere n 1 i) (λ d a q. locals_of_type_sound (suc n) w P makes (t ∷ u ∷ v ∷ i) a (record { base = base.Named t.word; dims = d })
    (record { read = type_read (g.named_base e) (pairs_behind f k q); low = omega (arith, q.low) }))

bracket_local_sound : (n : ℕ) (w : Site) (P : Lexemes → Nodes → Lexemes → Type 0) → TakesLocals n P → (evaluation : Begin → Parser Nodes) → TakesEvaluations P evaluation
    → (t u : Lexeme) → t.terminal ≡ terminal.Identifier → u.terminal ≡ terminal.LeftBracket → (i : Lexemes) → Meets (P (t ∷ u ∷ i)) Failed (bracket_local n w evaluation t.at t.word (u ∷ i))
bracket_local_sound zero w P makes evaluation takes t u e f = λ i. outcome.roomless
bracket_local_sound (suc n) w P makes evaluation takes t u e f = choose (λ i. P (t ∷ u ∷ i)) mark.RightBracket _ _ (λ v k i. array_locals_sound n w P makes t u v e f k i)
    (λ i. takes (behind_bracket t.at t.word) (t ∷ u ∷ i) i (from_bracket e f))

named_local_sound : (n : ℕ) (w : Site) (P : Lexemes → Nodes → Lexemes → Type 0) → TakesLocals n P → (evaluation : Begin → Parser Nodes) → TakesEvaluations P evaluation
    → (t : Lexeme) → t.terminal ≡ terminal.Identifier → (i : Lexemes) → Meets (P (t ∷ i)) Failed (named_local n w evaluation t.at t.word i)
unfolding named_local
named_local_sound n w P makes evaluation takes t e = choose (λ i. P (t ∷ i)) mark.Identifier _ _
    (λ u f i. locals_of_type_sound n w P makes (t ∷ u ∷ i) (u ∷ i) (record { base = base.Named t.word; dims = 0 }) (record { read = type_read (g.named_base e) g.no_pair; low = omega arith }))
    (choose (λ i. P (t ∷ i)) mark.LeftBracket _ _ (λ u f i. bracket_local_sound n w P makes evaluation takes t u e f i) (λ i. takes (behind_name t.at t.word) (t ∷ i) i (from_name e)))

local_or_sound : (n : ℕ) (w : Site) (P : Lexemes → Nodes → Lexemes → Type 0) → TakesLocals n P → (evaluation : Begin → Parser Nodes) → TakesEvaluations P evaluation
    → (i : Lexemes) → Meets (P i) Failed (local_or n w evaluation i)
unfolding local_or
local_or_sound n w P makes evaluation takes [] = takes fresh [] [] from_start
local_or_sound n w P makes evaluation takes (t ∷ i) = by (type_beginning t.terminal) (type_begins_so t.terminal) where
  by : (k : TypeBeginning) → TypeBeginsSo k t.terminal → Meets (P (t ∷ i)) Failed (local_by n w evaluation t.at k (t ∷ i))
  by typed.Int e = typed_locals_sound n w P makes (t ∷ i)
  by typed.Bool e = typed_locals_sound n w P makes (t ∷ i)
  by typed.Name e = named_local_sound n w P makes evaluation takes t e i
  by typed.Nothing e = takes fresh (t ∷ i) (t ∷ i) from_start

-- ---- expression statements

pub record StatementWithin (n : ℕ) (i : Lexemes) (p : PlainStmt × ℕ) (a : Lexemes) : Type 0 where
  pub read : Statement i a p.0 p.1
  pub low : p.1 ≤ n

pub evaluated_sound : (n : ℕ) (w : Site) {b : Begin} {j i : Lexemes} → Begun b j i → Meets (StatementWithin (suc n) j) Failed (evaluated n b w i)
unfolding evaluated
evaluated_sound n w {b} {j} {i} d =
    subst (λ at. Meets (StatementWithin (suc n) j) Failed ((statement_expression n b w >>= λ x. expect mark.Semicolon site.Elsewhere >> pure (evaluation_node at x)) i)) (sym (start_is_first d))
    (bind_terminal mark.Semicolon (λ _. site.Elsewhere) (statement_expression_sound n w d) (λ x t e a q. read (record { read = g.evaluate q.derives q.evaluates e; low = omega (arith, q.low) })))

record EvaluationsWithin (n : ℕ) (closing : Terminal) (i : Lexemes) (p : List PlainExpr × ℕ) (a : Lexemes) : Type 0 where
  read : Evaluations closing i a (exprs_from p.0) p.1
  low : p.1 ≤ n

evaluations_from : {n h : ℕ} {closing : Terminal} {t : Lexeme} {i a : Lexemes} {es : List PlainExpr} → Separated (Evaluated n) i (t ∷ a) es h → t.terminal ≡ closing → Evaluations closing i a (exprs_from es) h
evaluations_from (single d) e = g.last_evaluation d.derives d.evaluates e
evaluations_from (further d c q) e = g.more_evaluations d.derives d.evaluates c (evaluations_from q e)

evaluations_sound : (n : ℕ) (w : Site) (k : Mark) {b : Begin} {j i : Lexemes} → Begun b j i → Meets (EvaluationsWithin n (terminal_of_mark k) j) Failed (evaluations n b w k i)
unfolding evaluations
evaluations_sound n w k {b} {j} {i} d = bind_terminal k (λ _. site.Elsewhere)
    (listed_sound (statement_expression n b w) (statement_expression n fresh site.Elsewhere) j i (statement_expression_sound n w d) (λ i. statement_expression_sound n site.Elsewhere from_start))
    (λ es t e a q. read (record { read = evaluations_from q e; low = separated_within n (λ i x a r. r.low) q }))

-- ---- the parts of statements

-- an expression in parentheses
data Condition : Lexemes → Lexemes → PlainExpr → ℕ → Type 0 where
  in_parentheses : {t u : Lexeme} {i a : Lexemes} {x : PlainExpr} {h : ℕ} → t.terminal ≡ terminal.LeftParen → Derives 1 i (u ∷ a) x h → u.terminal ≡ terminal.RightParen → Condition (t ∷ i) a x h

record ConditionWithin (n : ℕ) (i : Lexemes) (p : Read) (a : Lexemes) : Type 0 where
  read : Condition i a p.0 p.1
  low : p.1 ≤ n

condition_sound : (n : ℕ) (i : Lexemes) → Meets (ConditionWithin n i) Failed (condition n i)
unfolding condition
condition_sound n = expect_terminal (ConditionWithin n) mark.LeftParen _ _ (λ t e i. bind_terminal mark.RightParen (λ _. site.Elsewhere) (fresh_sound n (expression n) (expression_sound n) 1 (omega arith) i)
    (λ c u f a q. read (record { read = in_parentheses e q.derives f; low = q.low })))

record MaybeWithin (n : ℕ) (i : Lexemes) (p : PlainOption × ℕ) (a : Lexemes) : Type 0 where
  read : MaybeExpr i a p.0 p.1
  low : p.1 ≤ n

maybe_expression_sound : (n : ℕ) (i : Lexemes) → Meets (MaybeWithin n i) Failed (maybe_expression n i)
unfolding maybe_expression
maybe_expression_sound n = choose (MaybeWithin n) mark.Semicolon _ _ (λ t e i. read (record { read = g.no_expr e; low = omega arith }))
    (λ i. bind_terminal mark.Semicolon (λ _. site.Elsewhere) (fresh_sound n (expression n) (expression_sound n) 1 (omega arith) i) (λ x t e a q. read (record { read = g.an_expr q.derives e; low = q.low })))

record InitWithin (n : ℕ) (i : Lexemes) (p : Nodes) (a : Lexemes) : Type 0 where
  read : ForInit i a (stmts_from p.0) p.1
  low : p.1 ≤ n

evaluations_alone : (es : List PlainExpr) → evaluations_of (exprs_from es) ≡ stmts_from (evaluation_nodes es)
evaluations_alone [] = refl
evaluations_alone (x ∷ es) = ap (tree.more_stmts (tree.evaluate (at_of x) x)) (evaluations_alone es)

init_locals_from : (n : ℕ) → TakesLocals n (InitWithin (suc n))
init_locals_from n j i a ty vs h t v low lower = record {
  read = subst (λ ss. ForInit j a ss (suc (max ty.dims h))) (sym (locals_alone (first_at j) ty vs)) (g.init_locals t v);
  low = omega arith;
}

init_evaluations_sound : (n : ℕ) → TakesEvaluations (InitWithin (suc n)) (init_evaluations n)
unfolding init_evaluations
init_evaluations_sound n b j i d = bind (evaluations_sound n site.TypeName mark.Semicolon d)
    (λ es a q. read (record { read = subst (λ ss. ForInit j a ss (suc es.1)) (evaluations_alone es.0) (g.init_evaluations q.read); low = omega (arith, q.low) }))

for_init_sound : (n : ℕ) (i : Lexemes) → Meets (InitWithin (suc n) i) Failed (for_init n i)
unfolding for_init
for_init_sound n = choose (InitWithin (suc n)) mark.Semicolon _ _ (λ t e i. read (record { read = g.init_none e; low = omega arith }))
    (local_or_sound n site.LoopName (InitWithin (suc n)) (init_locals_from n) (init_evaluations n) (init_evaluations_sound n))

record UpdateWithin (n : ℕ) (i : Lexemes) (p : PlainExprs × ℕ) (a : Lexemes) : Type 0 where
  read : ForUpdate i a p.0 p.1
  low : p.1 ≤ n

for_update_sound : (n : ℕ) (i : Lexemes) → Meets (UpdateWithin n i) Failed (for_update n i)
unfolding for_update
for_update_sound n = choose (UpdateWithin n) mark.RightParen _ _ (λ t e i. read (record { read = g.update_none e; low = omega arith }))
    (λ i. bind (evaluations_sound n site.Elsewhere mark.RightParen from_start) (λ es a q. read (record { read = g.update_some q.read; low = q.low })))

-- ---- blocks

abbrev StatementsSound : ℕ → parser.Statements → Type 0
StatementsSound n statement = (i : Lexemes) → Meets (StatementWithin n i) Failed (statement i)

-- a statement, or the nodes of a declaration of locals
data NodesRead : Lexemes → Lexemes → List PlainStmt → ℕ → Type 0 where
  a_node : {i a : Lexemes} {x : PlainStmt} {h : ℕ} → Statement i a x h → NodesRead i a (x ∷ []) h
  nodes : {i n a : Lexemes} {ty : TypeName} {vs : List Variable} {h : ℕ} → TypeRead i n ty → Variables n a vs h → NodesRead i a (local_nodes (first_at i) ty vs) (suc (max ty.dims h))

pub record NodesWithin (n : ℕ) (i : Lexemes) (p : Nodes) (a : Lexemes) : Type 0 where
  read : NodesRead i a p.0 p.1
  low : p.1 ≤ n

pub node_within : {n : ℕ} {i a : Lexemes} {x : PlainStmt} {h : ℕ} → StatementWithin n i (x, h) a → NodesWithin n i (x ∷ [], h) a
node_within q = record { read = a_node q.read; low = q.low }

in_front : {i n a : Lexemes} {xs : List PlainStmt} {g h : ℕ} (ss : List PlainStmt) → NodesRead i n xs g → Statements n a (stmts_from ss) h → Statements i a (stmts_from (xs ++ ss)) (max g h)
in_front ss (a_node d) r = g.a_statement d r
in_front {i} {n} {a} {h = h} ss (nodes {ty = ty} {vs = vs} {h = f} t v) r =
    subst (λ ns. Statements i a ns (max (suc (max ty.dims f)) h)) (sym (locals_onto (first_at i) ty vs ss)) (g.locals t v r)

pub statements_of : {n h : ℕ} {i a : Lexemes} {ss : List PlainStmt} → Repeated (NodesWithin n) i a ss h → Statements i a (stmts_from ss) h
statements_of done = g.no_statement
statements_of (again {ys = ss} d q) = in_front ss d.read (statements_of q)

locals_within : (n : ℕ) → TakesLocals n (NodesWithin (suc n))
locals_within n j i a ty vs h t v low lower = record { read = nodes t v; low = omega arith }

block_evaluation_sound : (n : ℕ) (statement : parser.Statements) → StatementsSound (suc n) statement → TakesEvaluations (NodesWithin (suc n)) (block_evaluation n statement)
block_evaluation_sound n statement h fresh j i from_start = bind (h i) (λ x a q. read (node_within q))
block_evaluation_sound n statement h (behind_name at x) j i d = bind (evaluated_sound n site.DeclarationName d) (λ x a q. read (node_within q))
block_evaluation_sound n statement h (behind_bracket at x) j i d = bind (evaluated_sound n site.DeclarationName d) (λ x a q. read (node_within q))
block_evaluation_sound n statement h (behind_this at) j i d = bind (evaluated_sound n site.DeclarationName d) (λ x a q. read (node_within q))
block_evaluation_sound n statement h (behind_super at) j i d = bind (evaluated_sound n site.DeclarationName d) (λ x a q. read (node_within q))

roomless_local_sound : (statement : parser.Statements) → StatementsSound zero statement → (i : Lexemes) (k : TypeBeginning) → Meets (NodesWithin zero i) Failed (roomless_local statement k i)
roomless_local_sound statement h i typed.Nothing = bind (h i) (λ x a q. read (node_within q))
roomless_local_sound statement h i typed.Int = outcome.roomless
roomless_local_sound statement h i typed.Bool = outcome.roomless
roomless_local_sound statement h i typed.Name = outcome.roomless

block_statement_sound : (n : ℕ) (statement : parser.Statements) → StatementsSound n statement → (i : Lexemes) → Meets (NodesWithin n i) Failed (block_statement n statement i)
unfolding block_statement
block_statement_sound zero statement h i = roomless_local_sound statement h i (type_beginning (terminal_at i))
block_statement_sound (suc n) statement h i = local_or_sound n site.DeclaredName (NodesWithin (suc n)) (locals_within n) (block_evaluation n statement) (block_evaluation_sound n statement h) i

pub record ListWithin (n : ℕ) (i : Lexemes) (p : Nodes) (a : Lexemes) : Type 0 where
  pub read : Statements i a (stmts_from p.0) p.1
  pub low : p.1 ≤ n

-- behind statements that were found from j on
pub statements_from_sound : (n : ℕ) (statement : parser.Statements) → StatementsSound n statement → (found : List PlainStmt) (high : ℕ) (j i : Lexemes) → Repeated (NodesWithin n) j i found high
    → Meets (ListWithin n j) Failed (statements_from n statement found high i)
unfolding statements_from
statements_from_sound n statement h found high j i d = weaken (many_sound is_inside (block_statement n statement) (block_statement_sound n statement h) (length i) found high j i d)
    (λ ss a q. record { read = statements_of q; low = repeated_within n (λ i x a r. r.low) q })

pub record BlockWithin (n : ℕ) (i : Lexemes) (p : Nodes) (a : Lexemes) : Type 0 where
  pub read : Block i a (stmts_from p.0) p.1
  pub low : p.1 ≤ n

pub block_sound : (n : ℕ) (statement : parser.Statements) (w : Site) → StatementsSound n statement → (i : Lexemes) → Meets (BlockWithin n i) Failed (block n statement w i)
unfolding block
block_sound n statement w h = expect_terminal (BlockWithin n) mark.LeftBrace w _ (λ t e i. bind_terminal mark.RightBrace (λ _. site.Elsewhere) (statements_from_sound n statement h [] 0 i i done)
    (λ ss u f a q. read (record { read = g.braces e q.read f; low = q.low })))

-- ---- statements with statements in them

if_only_of : {t : Lexeme} {i n a : Lexemes} {c : PlainExpr} {x : PlainStmt} {f h : ℕ} → t.terminal ≡ terminal.If → Condition i n c f → Statement n a x h → goes_on_with_else a ≡ false
    → Statement (t ∷ i) a (tree.if_else t.at c x tree.no_else) (suc (max f h))
if_only_of e (in_parentheses f c k) x no_else = g.if_only e f c k x no_else

if_else_of : {t u : Lexeme} {i n k a : Lexemes} {c : PlainExpr} {x y : PlainStmt} {e f h : ℕ} → t.terminal ≡ terminal.If → Condition i n c e → Statement n (u ∷ k) x f → u.terminal ≡ terminal.Else → Statement k a y h
    → Statement (t ∷ i) a (tree.if_else t.at c x (tree.else_with y)) (suc (max e (max f h)))
if_else_of e (in_parentheses f c k) x o y = g.if_else e f c k x o y

while_of : {t : Lexeme} {i n a : Lexemes} {c : PlainExpr} {x : PlainStmt} {f h : ℕ} → t.terminal ≡ terminal.While → Condition i n c f → Statement n a x h → Statement (t ∷ i) a (tree.while_loop t.at c x) (suc (max f h))
while_of e (in_parentheses f c k) x = g.while_loop e f c k x

do_of : {t u z : Lexeme} {i n a : Lexemes} {c : PlainExpr} {x : PlainStmt} {f h : ℕ} → t.terminal ≡ terminal.Do → Statement i (u ∷ n) x h → u.terminal ≡ terminal.While → Condition n (z ∷ a) c f → z.terminal ≡ terminal.Semicolon
    → Statement (t ∷ i) a (tree.do_loop t.at x c) (suc (max h f))
do_of e x w (in_parentheses f c k) z = g.do_loop e x w f c k z

otherwise_sound : (n : ℕ) (statement : parser.Statements) → StatementsSound n statement → (t : Lexeme) → t.terminal ≡ terminal.If → (i k : Lexemes) (c : Read) (x : PlainStmt × ℕ) → ConditionWithin n i c k → x.1 ≤ n
    → (a : Lexemes) → Statement k a x.0 x.1 → Meets (StatementWithin (suc n) (t ∷ i)) Failed (otherwise statement t.at c x a)
unfolding otherwise
otherwise_sound n statement h t e i k c x d low = choose_else_by (λ a. Statement k a x.0 x.1) mark.Else _ _
    (λ u f o r. bind (h o) (λ y a q. read (record { read = if_else_of e d.read r f q.read; low = omega (arith, d.low, q.low) })))
    (λ a f r. read (record { read = if_only_of e d.read r (sym (else_is_seen a) ∙ f); low = omega (arith, d.low) }))

if_sound : (n : ℕ) (statement : parser.Statements) → StatementsSound n statement → (t : Lexeme) → t.terminal ≡ terminal.If → (i : Lexemes) → Meets (StatementWithin (suc n) (t ∷ i)) Failed (if_statement n statement t.at (t ∷ i))
unfolding if_statement
if_sound zero statement h t e i = outcome.roomless
if_sound (suc n) statement h t e i = bind (condition_sound (suc n) i) (λ c k q. bind (h k) (λ x a r. otherwise_sound (suc n) statement h t e i k c x q r.low a r.read))

while_sound : (n : ℕ) (statement : parser.Statements) → StatementsSound n statement → (t : Lexeme) → t.terminal ≡ terminal.While → (i : Lexemes) → Meets (StatementWithin (suc n) (t ∷ i)) Failed (while_statement n statement t.at (t ∷ i))
unfolding while_statement
while_sound zero statement h t e i = outcome.roomless
while_sound (suc n) statement h t e i = bind (condition_sound (suc n) i) (λ c k q. bind (h k) (λ x a r. read (record { read = while_of e q.read r.read; low = omega (arith, q.low, r.low) })))

do_sound : (n : ℕ) (statement : parser.Statements) → StatementsSound n statement → (t : Lexeme) → t.terminal ≡ terminal.Do → (i : Lexemes) → Meets (StatementWithin (suc n) (t ∷ i)) Failed (do_statement n statement t.at (t ∷ i))
unfolding do_statement
do_sound zero statement h t e i = outcome.roomless
do_sound (suc n) statement h t e i = bind_terminal mark.While (λ _. site.Elsewhere) (h i) (λ x u f k q. bind_terminal mark.Semicolon (λ _. site.Elsewhere) (condition_sound (suc n) k)
    (λ c z l a r. read (record { read = do_of e q.read f r.read l; low = omega (arith, q.low, r.low) })))

for_sound : (n : ℕ) (statement : parser.Statements) → StatementsSound n statement → (t : Lexeme) → t.terminal ≡ terminal.For → (i : Lexemes) → Meets (StatementWithin (suc n) (t ∷ i)) Failed (for_statement n statement t.at (t ∷ i))
unfolding for_statement
for_sound zero statement h t e = λ i. outcome.roomless
for_sound (suc n) statement h t e = expect_terminal (λ i. StatementWithin (suc (suc n)) (t ∷ i)) mark.LeftParen _ _ (λ u f i. bind (for_init_sound n i) (λ is k p. bind (maybe_expression_sound (suc n) k)
    (λ c l q. bind (for_update_sound (suc n) l) (λ es o r. bind (h o) (λ x a v. read (record { read = g.for_loop e f p.read q.read r.read v.read; low = omega (arith, p.low, q.low, r.low, v.low) }))))))

throw_sound : (n : ℕ) (t : Lexeme) → t.terminal ≡ terminal.Throw → (i : Lexemes) → Meets (StatementWithin (suc n) (t ∷ i)) Failed (throw_statement n t.at (t ∷ i))
unfolding throw_statement
throw_sound zero t e i = outcome.roomless
throw_sound (suc n) t e i = bind_terminal mark.Semicolon (λ _. site.Elsewhere) (fresh_sound (suc n) (expression (suc n)) (expression_sound (suc n)) 1 (omega arith) i)
    (λ x u f a q. read (record { read = g.throw e q.derives f; low = omega (arith, q.low) }))

-- ---- catches

data CatchRead : Lexemes → Lexemes → List PlainCatch → ℕ → Type 0 where
  a_catch : {t u v w z : Lexeme} {i a : Lexemes} {ss : PlainStmts} {h : ℕ} → t.terminal ≡ terminal.Catch → u.terminal ≡ terminal.LeftParen → v.terminal ≡ terminal.Identifier → w.terminal ≡ terminal.Identifier → z.terminal ≡ terminal.RightParen
      → Block i a ss h → CatchRead (t ∷ u ∷ v ∷ w ∷ z ∷ i) a (tree.catch_of_class v.word w.word ss ∷ []) h

record CatchWithin (n : ℕ) (i : Lexemes) (p : List PlainCatch × ℕ) (a : Lexemes) : Type 0 where
  read : CatchRead i a p.0 p.1
  low : p.1 ≤ n

catch_sound : (n : ℕ) (statement : parser.Statements) → StatementsSound n statement → (i : Lexemes) → Meets (CatchWithin n i) Failed (catch_clause n statement i)
unfolding catch_clause
catch_sound n statement h = expect_terminal (CatchWithin n) mark.Catch _ _ (λ t e. expect_terminal (λ i. CatchWithin n (t ∷ i)) mark.LeftParen _ _ (λ u f. expect_name (λ i. CatchWithin n (t ∷ u ∷ i)) _ _
    (λ v k. expect_name (λ i. CatchWithin n (t ∷ u ∷ v ∷ i)) _ _ (λ w l. expect_terminal (λ i. CatchWithin n (t ∷ u ∷ v ∷ w ∷ i)) mark.RightParen _ _
    (λ z o i. bind (block_sound n statement site.Elsewhere h i) (λ ss a q. read (record { read = a_catch e f k l o q.read; low = q.low })))))))

catches_of : {n : ℕ} {m i a : Lexemes} {xs ys : List PlainCatch} {f h : ℕ} → CatchRead i m xs f → Repeated (CatchWithin n) m a ys h → Catches i a (catches_from (xs ++ ys)) (max f h)
catches_of {i = i} {a = a} {f = d} (a_catch {v = v} {w = w} {ss = ss} e f k l o b) done =
    subst (Catches i a (tree.more_catches (tree.catch_of_class v.word w.word ss) tree.no_catches)) (sym (max_none d)) (g.last_catch e f k l o b)
catches_of (a_catch e f k l o b) (again d q) = g.more_catches e f k l o b (catches_of d.read q)

record CatchesWithin (n : ℕ) (i : Lexemes) (p : List PlainCatch × ℕ) (a : Lexemes) : Type 0 where
  read : Catches i a (catches_from p.0) p.1
  low : p.1 ≤ n

all_catches : (n : ℕ) (i k : Lexemes) (c : List PlainCatch × ℕ) → CatchWithin n i c k → (p : List PlainCatch × ℕ) (a : Lexemes) → Further (CatchWithin n) c.0 c.1 k p a → CatchesWithin n i p a
all_catches n i k c q p a r = record {
  read = subst (Catches i a (catches_from p.0)) (sym r.highest) (subst (λ cs. Catches i a (catches_from cs) (max c.1 r.high)) (sym r.all) (catches_of q.read r.repeated));
  low = omega (arith, q.low, r.highest, repeated_within n (λ i x a d. d.low) r.repeated);
}

catches_sound : (n : ℕ) (statement : parser.Statements) → StatementsSound n statement → (i : Lexemes) → Meets (CatchesWithin n i) Failed (catch_clauses n statement i)
unfolding catch_clauses
catches_sound n statement h i = bind (catch_sound n statement h i)
    (λ c k q. weaken (further_sound (is_mark mark.Catch) (catch_clause n statement) (catch_sound n statement h) (length k) c.0 c.1 k) (all_catches n i k c q))

try_sound : (n : ℕ) (statement : parser.Statements) → StatementsSound n statement → (t : Lexeme) → t.terminal ≡ terminal.Try → (i : Lexemes) → Meets (StatementWithin (suc n) (t ∷ i)) Failed (try_statement n statement t.at (t ∷ i))
unfolding try_statement
try_sound n statement h t e i = bind (block_sound n statement site.Elsewhere h i) (λ ss k q. bind (catches_sound n statement h k)
    (λ cs a r. read (record { read = g.try_catch e q.read r.read; low = omega (arith, q.low, r.low) })))

-- ---- all statements

roomless_statement_sound : {P : PlainStmt × ℕ → Lexemes → Type 0} (i : Lexemes) (k : Heading) → Meets P Failed (roomless_by (terminal_at i) k i)
roomless_statement_sound {P} i heading.Other = by (begins 14 (beginning (terminal_at i)) || is_step (beginning (terminal_at i))) where
  by : (x : Bool) → Meets P Failed ((if x then deep else refuse site.Elsewhere) i)
  by true = outcome.roomless
  by false = refused
roomless_statement_sound i _ = outcome.roomless

pub statement_sound : (n : ℕ) → StatementsSound n (statement n)
unfolding statement
statement_sound zero i = roomless_statement_sound i (heading_of (terminal_at i))
statement_sound (suc n) [] = evaluated_sound n site.StatementName from_start
statement_sound (suc n) (t ∷ i) = by (statement_sound n) (heading_of t.terminal) (heads_so t.terminal) where
  by : StatementsSound n (statement n) → (k : Heading) → HeadsSo k t.terminal → Meets (StatementWithin (suc n) (t ∷ i)) Failed (statement_by n (statement n) t.at k (t ∷ i))
  by h heading.Block e = bind (block_sound n (statement n) site.Elsewhere h (t ∷ i)) (λ ss a q. read (record { read = g.block q.read; low = omega (arith, q.low) }))
  by h heading.Empty e = read (record { read = g.empty e; low = omega arith })
  by h heading.If e = if_sound n (statement n) h t e i
  by h heading.While e = while_sound n (statement n) h t e i
  by h heading.Do e = do_sound n (statement n) h t e i
  by h heading.For e = for_sound n (statement n) h t e i
  by h heading.Return e = bind (maybe_expression_sound n i) (λ v a q. read (record { read = g.return_with e q.read; low = omega (arith, q.low) }))
  by h heading.Throw e = throw_sound n t e i
  by h heading.Break e = expect_terminal (λ i. StatementWithin (suc n) (t ∷ i)) mark.Semicolon _ _ (λ u f a. read (record { read = g.break_loop e f; low = omega arith })) i
  by h heading.Continue e = expect_terminal (λ i. StatementWithin (suc n) (t ∷ i)) mark.Semicolon _ _ (λ u f a. read (record { read = g.continue_loop e f; low = omega arith })) i
  by h heading.Try e = try_sound n (statement n) h t e i
  by h heading.Other e = evaluated_sound n site.StatementName from_start
