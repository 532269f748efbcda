-- The parts of statements
use Rattle.std.proofs.Common.{◌≡◌, refl, ap, sym, ◌∙◌, ℕ, zero, suc, ◌≤◌, max, Bool, true, false, not, List, [], ◌∷◌, ◌++◌, length, Ok, arith}
use Rattle.std.proofs.lemmas.List.{append-nil}
use Rattle.bcj_parser_trees.specs.declared.names.TypeName.{TypeName}
use Rattle.bcj_parser_trees.specs.Trees as tree
use Rattle.bcj_parser_trees.specs.Trees.{PlainExpr, PlainExprs, PlainOption, PlainStmt, PlainStmts, PlainCatch, PlainCatches, exprs_from, stmts_from, catches_from}
use Rattle.bcj_parser_rules.specs.declared.kind.Mark.{Mark}
use Rattle.bcj_parser_rules.specs.declared.kind.Mark.TheVariants as mark
use Rattle.bcj_parser_rules.specs.declared.kind.Heading.{Heading}
use Rattle.bcj_parser_rules.specs.declared.kind.Heading.TheVariants as heading
use Rattle.bcj_parser_rules.specs.declared.terminal.Terminal.{Terminal}
use Rattle.bcj_parser_rules.specs.declared.terminal.Terminal.TheVariants as terminal
use Rattle.bcj_parser_rules.specs.declared.stop.Site.{Site}
use Rattle.bcj_parser_rules.specs.declared.stop.Site.TheVariants as site
use Rattle.bcj_parser_rules.specs.Lexemes.{Lexeme, Lexemes}
use Rattle.bcj_parser_rules.specs.Grammar as g
use Rattle.bcj_parser_rules.specs.Lexemes.{first_at}
use Rattle.bcj_parser_rules.specs.Grammar.{Derives, Variable, TypeRead, int_base, boolean_base, named_base, Evaluations, ForInit, MaybeExpr, ForUpdate, locals_of, evaluations_of, at_of, goes_on_with_else}
use Rattle.bcj_parser_rules.specs.Lexemes.{terminal_at}
use Rattle.bcj_parser_rules.specs.Marks.{is_mark}
use Rattle.bcj_parser_rules.specs.function.Kinds.{terminal_of_mark, beginning, heading_of}
use Rattle.bcj_parser_rules.specs.function.Steps.{Outcome, sees}
use Rattle.bcj_parser_rules.specs.function.Expressions.{fresh, begins, Read, expression}
use Rattle.bcj_parser_rules.specs.function.Statements.{Nodes, local_nodes, evaluation_nodes, condition, maybe_expression, init_evaluations, for_init, for_update, is_inside, block_statement, statements_from, block, Statements, otherwise, if_statement, while_statement, do_statement, for_statement, throw_statement, catch_clause, catch_clauses, try_statement, statement_by, statement}
use Rattle.bcj_parser_completeness.proofs.Terminals.{seen, apart}
use Rattle.bcj_parser_completeness.proofs.Steps.{bind, taking, passing, expect_reads, named_reads}
use Rattle.bcj_parser_completeness.proofs.Lists.{Many, many_reads, read_as}
use Rattle.bcj_parser_completeness.proofs.Follows.{closes, not_begun}
use Rattle.bcj_parser_completeness.proofs.Shapes.{tall, expression_begins, list_of, listed_back}
use Rattle.bcj_parser_completeness.proofs.Expressions.{value_reads}
use Rattle.bcj_parser_completeness.proofs.Evaluations.{Begun, at_start, begun_at, evaluation_reads, local_or_evaluates, evaluations_read}
use Rattle.bcj_parser_completeness.proofs.Variables.{locals_read}

-- ---- lists of plain trees

abbrev pub list_stmts : PlainStmts → List PlainStmt
list_stmts tree.no_stmts = []
list_stmts (tree.more_stmts x ss) = x ∷ list_stmts ss

pub stmts_back : (ss : PlainStmts) → stmts_from (list_stmts ss) ≡ ss
stmts_back tree.no_stmts = refl
stmts_back (tree.more_stmts x ss) = ap (tree.more_stmts x) (stmts_back ss)

abbrev pub list_catches : PlainCatches → List PlainCatch
list_catches tree.no_catches = []
list_catches (tree.more_catches x cs) = x ∷ list_catches cs

pub catches_back : (cs : PlainCatches) → catches_from (list_catches cs) ≡ cs
catches_back tree.no_catches = refl
catches_back (tree.more_catches x cs) = ap (tree.more_catches x) (catches_back cs)

pub nodes_listed : (at : ℕ) (ty : TypeName) (vs : List Variable) (ss : PlainStmts) → local_nodes at ty vs ++ list_stmts ss ≡ list_stmts (locals_of at ty vs ss)
nodes_listed at ty [] ss = refl
nodes_listed at ty (v ∷ vs) ss = ap (λ l. tree.local_variable at ty v.name v.init ∷ l) (nodes_listed at ty vs ss)

evaluations_listed : (es : PlainExprs) → evaluation_nodes (list_of es) ≡ list_stmts (evaluations_of es)
evaluations_listed tree.no_exprs = refl
evaluations_listed (tree.more_exprs x es) = ap (λ l. tree.evaluate (at_of x) x ∷ l) (evaluations_listed es)

-- ---- first tokens

abbrev pub names_type : Terminal → Bool
names_type terminal.IntType = true
names_type terminal.Boolean = true
names_type terminal.Identifier = true
names_type _ = false

pub type_named : {i a : Lexemes} {ty : TypeName} → TypeRead i a ty → names_type (terminal_at i) ≡ true
type_named (g.type_read (int_base e) b) = ap names_type e
type_named (g.type_read (boolean_base e) b) = ap names_type e
type_named (g.type_read (named_base e) b) = ap names_type e

pub not_named : (i : Lexemes) → names_type (terminal_at i) ≡ true → (k : Mark) → names_type (terminal_of_mark k) ≡ false → sees k i ≡ false
not_named i e k f = apart names_type k (terminal_at i) (f ∙ sym (ap not e))

pub expression_heading : (j : Terminal) → begins 1 (beginning j) ≡ true → heading_of j ≡ heading.Other
expression_heading terminal.LeftBrace e = absurd (cc)
expression_heading terminal.Semicolon e = absurd (cc)
expression_heading terminal.If e = absurd (cc)
expression_heading terminal.While e = absurd (cc)
expression_heading terminal.Do e = absurd (cc)
expression_heading terminal.For e = absurd (cc)
expression_heading terminal.Return e = absurd (cc)
expression_heading terminal.Throw e = absurd (cc)
expression_heading terminal.Break e = absurd (cc)
expression_heading terminal.Continue e = absurd (cc)
expression_heading terminal.Try e = absurd (cc)
expression_heading _ e = refl

-- ---- expressions in statements

pub condition_reads : {m k : Lexemes} (u : Lexeme) {v : Lexeme} {c : PlainExpr} {h : ℕ} → u.terminal ≡ terminal.LeftParen → Derives 1 m (v ∷ k) c h → v.terminal ≡ terminal.RightParen → (n : ℕ) → h ≤ n → condition n (u ∷ m) ≡ (Ok (c, h), k)
unfolding condition
condition_reads {m = m} {k = k} u {v = v} e d f n l =
    bind (expect_reads mark.LeftParen site.Elsewhere u m e) _ (bind (value_reads d n l (ap closes f)) _ (bind (expect_reads mark.RightParen site.Elsewhere v k f) _ refl))

pub maybe_reads : {i a : Lexemes} {o : PlainOption} {h : ℕ} → MaybeExpr i a o h → (n : ℕ) → h ≤ n → maybe_expression n i ≡ (Ok (o, h), a)
unfolding maybe_expression
maybe_reads (g.no_expr {t = t} {a = a} e) n l = taking (seen mark.Semicolon t a e) _ refl
maybe_reads (g.an_expr {t = t} {i = i} {a = a} d e) n l =
    passing (not_begun (terminal_at i) (expression_begins d) mark.Semicolon refl) _ (bind (value_reads d n l (ap closes e)) _ (bind (expect_reads mark.Semicolon site.Elsewhere t a e) _ refl))

evaluations_begin : {closing : Terminal} {i a : Lexemes} {es : PlainExprs} {h : ℕ} → Evaluations closing i a es h → begins 1 (beginning (terminal_at i)) ≡ true
evaluations_begin (g.last_evaluation d c e) = expression_begins d
evaluations_begin (g.more_evaluations d c e ds) = expression_begins d

evaluations_tall : {closing : Terminal} {i a : Lexemes} {es : PlainExprs} {h : ℕ} → Evaluations closing i a es h → 1 ≤ h
evaluations_tall (g.last_evaluation d c e) = tall d
evaluations_tall (g.more_evaluations d c e ds) = omega (arith, tall d)

evaluations_begun : {closing : Terminal} {i a : Lexemes} {es : PlainExprs} {h : ℕ} → Evaluations closing i a es h → closes closing ≡ true → (n : ℕ) → h ≤ suc n → Begun i
evaluations_begun (g.last_evaluation {i = i} d c e) q n l = begun_at n site.Elsewhere i (expression_begins d) (evaluation_reads d c (suc n) l (ap closes e ∙ q) at_start site.Elsewhere)
evaluations_begun (g.more_evaluations {i = i} d c e ds) q n l = begun_at n site.Elsewhere i (expression_begins d) (evaluation_reads d c (suc n) (omega arith) (ap closes e) at_start site.Elsewhere)

abbrev the_update : PlainExprs → ℕ → Lexemes → Outcome (PlainExprs × ℕ)
the_update es h a = (Ok (es, h), a)

pub update_reads : {i a : Lexemes} {es : PlainExprs} {h : ℕ} → ForUpdate i a es h → (n : ℕ) → h ≤ n → for_update n i ≡ (Ok (es, h), a)
unfolding for_update
update_reads (g.update_none {t = t} {a = a} e) n l = taking (seen mark.RightParen t a e) _ refl
update_reads (g.update_some {i = i} {a = a} {es = es} {h = h} d) n l =
    passing (not_begun (terminal_at i) (evaluations_begin d) mark.RightParen refl) _ (bind (evaluations_read mark.RightParen d refl refl at_start n l site.Elsewhere) _ (ap (λ es. the_update es h a) (listed_back es)))

abbrev pub the_nodes : List PlainStmt → ℕ → Lexemes → Outcome Nodes
the_nodes xs h a = (Ok (xs, h), a)

pub init_reads : {i a : Lexemes} {is : PlainStmts} {h : ℕ} → ForInit i a is h → (n : ℕ) → h ≤ suc n → for_init n i ≡ (Ok (list_stmts is, h), a)
unfolding for_init init_evaluations
init_reads (g.init_none {t = t} {a = a} e) n l = taking (seen mark.Semicolon t a e) _ refl
init_reads (g.init_locals {i = i} {m = m} {a = a} {ty = ty} {vs = vs} {h = h} r v) n l =
    passing (not_named i (type_named r) mark.Semicolon refl) _ (locals_read r v n site.LoopName (init_evaluations n) (omega arith) (omega arith)
    ∙ ap (λ xs. the_nodes xs (suc (max ty.dims h)) a) (sym (append-nil (local_nodes (first_at i) ty vs)) ∙ nodes_listed (first_at i) ty vs tree.no_stmts))
init_reads (g.init_evaluations {i = i} {a = a} {es = es} {h = h} d) zero l = absurd (omega (arith, evaluations_tall d))
init_reads (g.init_evaluations {i = i} {a = a} {es = es} {h = h} d) (suc n) l =
    passing (not_begun (terminal_at i) (evaluations_begin d) mark.Semicolon refl) _
    (local_or_evaluates (evaluations_begun d refl n (omega arith)) (suc n) (omega arith) site.LoopName (init_evaluations (suc n)) (the_nodes (evaluation_nodes (list_of es)) (suc h) a)
    (λ b j r. bind (evaluations_read mark.Semicolon d refl refl r (suc n) (omega arith) site.TypeName) _ refl)
    ∙ ap (λ xs. the_nodes xs (suc h) a) (evaluations_listed es))

-- ---- statements by their first token

pub statement_as : (n : ℕ) (i : Lexemes) {o : Outcome (PlainStmt × ℕ)} (k : Heading) → heading_of (terminal_at i) ≡ k → statement_by n (statement n) (first_at i) k i ≡ o → statement (suc n) i ≡ o
unfolding statement
statement_as n i k e h = ap (λ k. statement_by n (statement n) (first_at i) k i) e ∙ h

pub at_statement : (n : ℕ) (i : Lexemes) {h : ℕ} {o : Outcome (PlainStmt × ℕ)} → 1 ≤ h → h ≤ n → ((k : ℕ) → h ≤ suc k → statement (suc k) i ≡ o) → statement n i ≡ o
at_statement zero i p l f = absurd (omega arith)
at_statement (suc n) i p l f = f n l

no_else_behind : (i : Lexemes) → goes_on_with_else i ≡ false → sees mark.Else i ≡ false
no_else_behind [] e = refl
no_else_behind (t ∷ i) e = e

pub without_else : (st : Statements) (at : ℕ) (c : Read) (x : PlainStmt × ℕ) (a : Lexemes) → goes_on_with_else a ≡ false → otherwise st at c x a ≡ (Ok (tree.if_else at c.0 x.0 tree.no_else, suc (max c.1 x.1)), a)
unfolding otherwise
without_else st at c x a e = passing (no_else_behind a e) _ refl

pub with_else : (st : Statements) (at : ℕ) (c : Read) (x y : PlainStmt × ℕ) (w : Lexeme) (k a : Lexemes) → w.terminal ≡ terminal.Else → st k ≡ (Ok y, a)
    → otherwise st at c x (w ∷ k) ≡ (Ok (tree.if_else at c.0 x.0 (tree.else_with y.0), suc (max c.1 (max x.1 y.1))), a)
unfolding otherwise
with_else st at c x y w k a e h = taking (seen mark.Else w k e) _ (bind h _ refl)

pub if_reads : (n : ℕ) (st : Statements) (at : ℕ) (t : Lexeme) (m k j : Lexemes) (c : Read) (x : PlainStmt × ℕ) {o : Outcome (PlainStmt × ℕ)} → 1 ≤ n → condition n m ≡ (Ok c, k) → st k ≡ (Ok x, j) → otherwise st at c x j ≡ o
    → if_statement n st at (t ∷ m) ≡ o
unfolding if_statement
if_reads zero st at t m k j c x l e f h = absurd (omega arith)
if_reads (suc n) st at t m k j c x l e f h = bind e _ (bind f _ h)

pub while_reads : (n : ℕ) (st : Statements) (at : ℕ) (t : Lexeme) (m k a : Lexemes) (c : Read) (x : PlainStmt × ℕ) → 1 ≤ n → condition n m ≡ (Ok c, k) → st k ≡ (Ok x, a)
    → while_statement n st at (t ∷ m) ≡ (Ok (tree.while_loop at c.0 x.0, suc (max c.1 x.1)), a)
unfolding while_statement
while_reads zero st at t m k a c x l e f = absurd (omega arith)
while_reads (suc n) st at t m k a c x l e f = bind e _ (bind f _ refl)

pub do_reads : (n : ℕ) (st : Statements) (at : ℕ) (t u z : Lexeme) (m k a : Lexemes) (c : Read) (x : PlainStmt × ℕ) → 1 ≤ n → st m ≡ (Ok x, u ∷ k) → u.terminal ≡ terminal.While → condition n k ≡ (Ok c, z ∷ a) → z.terminal ≡ terminal.Semicolon
    → do_statement n st at (t ∷ m) ≡ (Ok (tree.do_loop at x.0 c.0, suc (max x.1 c.1)), a)
unfolding do_statement
do_reads zero st at t u z m k a c x l e f h p = absurd (omega arith)
do_reads (suc n) st at t u z m k a c x l e f h p = bind e _ (bind (expect_reads mark.While site.Elsewhere u k f) _ (bind h _ (bind (expect_reads mark.Semicolon site.Elsewhere z a p) _ refl)))

pub for_reads : (n : ℕ) (st : Statements) (at : ℕ) (t u : Lexeme) (m i j k a : Lexemes) (is : Nodes) (c : PlainOption × ℕ) (es : PlainExprs × ℕ) (x : PlainStmt × ℕ) → u.terminal ≡ terminal.LeftParen → for_init n m ≡ (Ok is, i)
    → maybe_expression (suc n) i ≡ (Ok c, j) → for_update (suc n) j ≡ (Ok es, k) → st k ≡ (Ok x, a)
    → for_statement (suc n) st at (t ∷ u ∷ m) ≡ (Ok (tree.for_loop at (stmts_from is.0) c.0 es.0 x.0, suc (max is.1 (max c.1 (max es.1 x.1)))), a)
unfolding for_statement
for_reads n st at t u m i j k a is c es x e p q r h = bind (expect_reads mark.LeftParen site.Elsewhere u m e) _ (bind p _ (bind q _ (bind r _ (bind h _ refl))))

pub throw_reads : (n at : ℕ) (t u : Lexeme) (m a : Lexemes) (x : Read) → 1 ≤ n → expression n fresh 1 m ≡ (Ok x, u ∷ a) → u.terminal ≡ terminal.Semicolon → throw_statement n at (t ∷ m) ≡ (Ok (tree.throw at x.0, suc x.1), a)
unfolding throw_statement
throw_reads zero at t u m a x l e f = absurd (omega arith)
throw_reads (suc n) at t u m a x l e f = bind e _ (bind (expect_reads mark.Semicolon site.Elsewhere u a f) _ refl)

pub try_reads : (n : ℕ) (st : Statements) (at : ℕ) (t : Lexeme) (m k a : Lexemes) (ss : Nodes) (cs : List PlainCatch × ℕ) → block n st site.Elsewhere m ≡ (Ok ss, k) → catch_clauses n st k ≡ (Ok cs, a)
    → try_statement n st at (t ∷ m) ≡ (Ok (tree.try_catch at (stmts_from ss.0) (catches_from cs.0), suc (max ss.1 cs.1)), a)
unfolding try_statement
try_reads n st at t m k a ss cs e f = bind e _ (bind f _ refl)

pub catch_reads : (n : ℕ) (st : Statements) (t u v w z : Lexeme) (m a : Lexemes) (ss : Nodes) → t.terminal ≡ terminal.Catch → u.terminal ≡ terminal.LeftParen → v.terminal ≡ terminal.Identifier → w.terminal ≡ terminal.Identifier → z.terminal ≡ terminal.RightParen
    → block n st site.Elsewhere m ≡ (Ok ss, a) → catch_clause n st (t ∷ u ∷ v ∷ w ∷ z ∷ m) ≡ (Ok (tree.catch_of_class v.word w.word (stmts_from ss.0) ∷ [], ss.1), a)
unfolding catch_clause
catch_reads n st t u v w z m a ss e f h k p b =
    bind (expect_reads mark.Catch site.Elsewhere t (u ∷ v ∷ w ∷ z ∷ m) e) _ (bind (expect_reads mark.LeftParen site.Elsewhere u (v ∷ w ∷ z ∷ m) f) _
    (bind (named_reads site.Catch v (w ∷ z ∷ m) h) _ (bind (named_reads site.CatchClass w (z ∷ m) k) _ (bind (expect_reads mark.RightParen site.CatchName z m p) _ (bind b _ refl)))))

pub catch_clauses_read : (n : ℕ) (st : Statements) (i m a : Lexemes) (c : PlainCatch) (xs : List PlainCatch) (g h : ℕ) → catch_clause n st i ≡ (Ok (c ∷ [], g), m) → Many (is_mark mark.Catch) (catch_clause n st) m a xs h
    → catch_clauses n st i ≡ (Ok (c ∷ xs, max g h), a)
unfolding catch_clauses
catch_clauses_read n st i m a c xs g h e f = bind e _ (many_reads f (length m) (omega arith) (c ∷ []) g)

pub statements_from_read : (n : ℕ) (st : Statements) (i a : Lexemes) (xs : List PlainStmt) (h : ℕ) (found : List PlainStmt) (high : ℕ) → Many is_inside (block_statement n st) i a xs h
    → statements_from n st found high i ≡ (Ok (found ++ xs, max high h), a)
unfolding statements_from
statements_from_read n st i a xs h found high d = many_reads d (length i) (omega arith) found high

pub block_from : (n : ℕ) (st : Statements) (w : Site) (t u : Lexeme) (m a : Lexemes) (xs : List PlainStmt) (h : ℕ) → t.terminal ≡ terminal.LeftBrace → Many is_inside (block_statement n st) m (u ∷ a) xs h → u.terminal ≡ terminal.RightBrace
    → block n st w (t ∷ m) ≡ (Ok (xs, h), a)
unfolding block
block_from n st w t u m a xs h e d f =
    bind (expect_reads mark.LeftBrace w t m e) _ (bind (statements_from_read n st m (u ∷ a) xs h [] 0 d ∙ read_as (u ∷ a) refl (omega arith)) _ (bind (expect_reads mark.RightBrace site.Elsewhere u a f) _ refl))
