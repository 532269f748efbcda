-- Each statement that the grammar derives is read
use Rattle.std.proofs.Common.{◌≡◌, refl, ap, sym, ◌∙◌, ℕ, zero, suc, ◌≤◌, max, Bool, true, false, not, List, [], ◌∷◌, Ok, arith}
use Rattle.bcj_parser_trees.specs.declared.names.TypeName.{TypeName}
use Rattle.bcj_parser_trees.specs.Trees as tree
use Rattle.bcj_parser_trees.specs.Trees.{PlainExpr, PlainExprs, PlainOption, PlainStmt, PlainStmts, PlainCatch, PlainCatches, stmts_from, catches_from}
use Rattle.bcj_parser_rules.specs.declared.kind.Mark.{Mark}
use Rattle.bcj_parser_rules.specs.declared.kind.Mark.TheVariants as mark
use Rattle.bcj_parser_rules.specs.declared.kind.Heading.TheVariants as heading
use Rattle.bcj_parser_rules.specs.declared.kind.TypeBeginning.TheVariants as typed
use Rattle.bcj_parser_rules.specs.declared.terminal.Terminal.{Terminal}
use Rattle.bcj_parser_rules.specs.declared.terminal.Terminal.TheVariants as terminal
use Rattle.bcj_parser_rules.specs.declared.stop.Site.{Site}
use Rattle.bcj_parser_rules.specs.declared.stop.Site.TheVariants as site
use Rattle.bcj_parser_rules.specs.Lexemes.{Lexeme, Lexemes}
use Rattle.bcj_parser_rules.specs.Grammar as g
use Rattle.bcj_parser_rules.specs.Lexemes.{first_at}
use Rattle.bcj_parser_rules.specs.Grammar.{Derives, Variable, TypeRead, Variables, Statement, Block, Statements, Catches, locals_of, is_statement_expression}
use Rattle.bcj_parser_rules.specs.Lexemes.{terminal_at}
use Rattle.bcj_parser_rules.specs.Marks.{is_mark}
use Rattle.bcj_parser_rules.specs.function.Kinds.{terminal_of_mark, beginning, type_beginning, heading_of}
use Rattle.bcj_parser_rules.specs.function.Steps.{Outcome, sees}
use Rattle.bcj_parser_rules.specs.function.Expressions.{Begin, begins}
use Rattle.bcj_parser_rules.specs.function.Statements as parser
use Rattle.bcj_parser_rules.specs.function.Statements.{Nodes, local_nodes, is_inside, block_evaluation, block_statement, block, catch_clause, catch_clauses, statement}
use Rattle.bcj_parser_completeness.proofs.Terminals.{seen, unseen, apart}
use Rattle.bcj_parser_completeness.proofs.Steps.{bind, expect_reads}
use Rattle.bcj_parser_completeness.proofs.Lists.{Many, done, turn, read_as}
use Rattle.bcj_parser_completeness.proofs.Follows.{closes}
use Rattle.bcj_parser_completeness.proofs.Lengths.{type_takes, variables_take, statement_takes, block_takes}
use Rattle.bcj_parser_completeness.proofs.Shapes.{tall, expression_begins}
use Rattle.bcj_parser_completeness.proofs.Expressions.{value_reads}
use Rattle.bcj_parser_completeness.proofs.Evaluations.{Resumes, at_start, at_name, at_bracket, at_this, at_super, begun_at, evaluation_reads, local_or_other, local_or_evaluates, evaluated_reads}
use Rattle.bcj_parser_completeness.proofs.Variables.{locals_read}
use Rattle.bcj_parser_completeness.proofs.StatementParts.{list_stmts, stmts_back, list_catches, catches_back, nodes_listed, names_type, type_named, expression_heading, condition_reads, maybe_reads, init_reads, update_reads, statement_as, at_statement, without_else, with_else, if_reads, while_reads, do_reads, for_reads, throw_reads, try_reads, catch_reads, catch_clauses_read, block_from}

statement_tall : {i a : Lexemes} {x : PlainStmt} {h : ℕ} → Statement i a x h → 1 ≤ h
statement_tall (g.empty e) = omega arith
statement_tall _ = omega arith

-- a terminal that may begin a statement or a declaration
abbrev pub opens : Terminal → Bool
opens terminal.RightBrace = false
opens terminal.Catch = false
opens _ = true

begins_opens : (j : Terminal) → begins 1 (beginning j) ≡ true → opens j ≡ true
begins_opens terminal.RightBrace e = absurd (cc)
begins_opens terminal.Catch e = absurd (cc)
begins_opens _ e = refl

names_opens : (j : Terminal) → names_type j ≡ true → opens j ≡ true
names_opens terminal.RightBrace e = absurd (cc)
names_opens terminal.Catch e = absurd (cc)
names_opens _ e = refl

pub block_brace : {i a : Lexemes} {ss : PlainStmts} {h : ℕ} → Block i a ss h → terminal_at i ≡ terminal.LeftBrace
block_brace (g.braces e d f) = e

statement_opens : {i a : Lexemes} {x : PlainStmt} {h : ℕ} → Statement i a x h → opens (terminal_at i) ≡ true
statement_opens (g.block b) = ap opens (block_brace b)
statement_opens (g.empty e) = ap opens e
statement_opens (g.evaluate {i = i} d c e) = begins_opens (terminal_at i) (expression_begins d)
statement_opens (g.if_only e f d k x o) = ap opens e
statement_opens (g.if_else e f d k x o y) = ap opens e
statement_opens (g.while_loop e f d k x) = ap opens e
statement_opens (g.do_loop e x f k d o p) = ap opens e
statement_opens (g.for_loop e f is c es x) = ap opens e
statement_opens (g.return_with e v) = ap opens e
statement_opens (g.throw e d f) = ap opens e
statement_opens (g.break_loop e f) = ap opens e
statement_opens (g.continue_loop e f) = ap opens e
statement_opens (g.try_catch e b cs) = ap opens e

opens_mark : (i : Lexemes) → opens (terminal_at i) ≡ true → (k : Mark) → opens (terminal_of_mark k) ≡ false → sees k i ≡ false
opens_mark i e k f = apart opens k (terminal_at i) (f ∙ sym (ap not e))

goes_inside : (i : Lexemes) → opens (terminal_at i) ≡ true → is_inside (terminal_at i) ≡ true
goes_inside i e = ap not (opens_mark i e mark.RightBrace refl)

statements_follow : {i a : Lexemes} {ss : PlainStmts} {h : ℕ} → Statements i a ss h → terminal_at a ≡ terminal.RightBrace → sees mark.Catch i ≡ false
statements_follow (g.no_statement {a = a}) e = unseen mark.Catch a e refl
statements_follow (g.a_statement {i = i} x ss) e = opens_mark i (statement_opens x) mark.Catch refl
statements_follow (g.locals {i = i} r v ss) e = opens_mark i (names_opens (terminal_at i) (type_named r)) mark.Catch refl

-- ---- in a block

abbrev a_node : PlainStmt → ℕ → Lexemes → Outcome Nodes
a_node x h a = (Ok (x ∷ [], h), a)

block_evaluates : {i j a : Lexemes} {b : Begin} {t : Lexeme} {x : PlainExpr} {h : ℕ} → Resumes i b j → Derives 1 i (t ∷ a) x h → is_statement_expression x ≡ true → t.terminal ≡ terminal.Semicolon → (n : ℕ) → h ≤ n → (st : parser.Statements)
    → st i ≡ (Ok (tree.evaluate (first_at i) x, suc h), a) → block_evaluation n st b j ≡ (Ok (tree.evaluate (first_at i) x ∷ [], suc h), a)
block_evaluates at_start d c e n l st o = bind o _ refl
block_evaluates (at_name p) d c e n l st o = bind (evaluated_reads d c e (at_name p) n l site.DeclarationName) _ refl
block_evaluates (at_bracket p q) d c e n l st o = bind (evaluated_reads d c e (at_bracket p q) n l site.DeclarationName) _ refl
block_evaluates (at_this p) d c e n l st o = bind (evaluated_reads d c e (at_this p) n l site.DeclarationName) _ refl
block_evaluates (at_super p) d c e n l st o = bind (evaluated_reads d c e (at_super p) n l site.DeclarationName) _ refl

block_other : (n : ℕ) (st : parser.Statements) (i m : Lexemes) (x : PlainStmt) (h : ℕ) → type_beginning (terminal_at i) ≡ typed.Nothing → st i ≡ (Ok (x, h), m) → block_statement (suc n) st i ≡ (Ok (x ∷ [], h), m)
unfolding block_statement
block_other n st i m x h e o = local_or_other e n site.DeclaredName (block_evaluation n st) (bind o _ refl)

block_evaluated : (n : ℕ) (st : parser.Statements) {i a : Lexemes} {t : Lexeme} {x : PlainExpr} {h : ℕ} → Derives 1 i (t ∷ a) x h → is_statement_expression x ≡ true → t.terminal ≡ terminal.Semicolon → h ≤ n
    → st i ≡ (Ok (tree.evaluate (first_at i) x, suc h), a) → block_statement (suc n) st i ≡ (Ok (tree.evaluate (first_at i) x ∷ [], suc h), a)
unfolding block_statement
block_evaluated zero st d c e l o = absurd (omega (arith, tall d))
block_evaluated (suc n) st {i = i} {a = a} {x = x} {h = h} d c e l o =
    local_or_evaluates (begun_at n site.Elsewhere i (expression_begins d) (evaluation_reads d c (suc n) l (ap closes e) at_start site.Elsewhere)) (suc n) (omega arith) site.DeclaredName (block_evaluation (suc n) st)
    (a_node (tree.evaluate (first_at i) x) (suc h) a) (λ b j r. block_evaluates r d c e (suc n) l st o)

block_statement_reads : {i m : Lexemes} {x : PlainStmt} {h : ℕ} → Statement i m x h → (n : ℕ) (st : parser.Statements) → h ≤ suc n → st i ≡ (Ok (x, h), m) → block_statement (suc n) st i ≡ (Ok (x ∷ [], h), m)
block_statement_reads (g.evaluate d c e) n st l o = block_evaluated n st d c e (omega arith) o
block_statement_reads (g.block b) n st l o = block_other n st _ _ _ _ (ap type_beginning (block_brace b)) o
block_statement_reads (g.empty e) n st l o = block_other n st _ _ _ _ (ap type_beginning e) o
block_statement_reads (g.if_only e f d k x q) n st l o = block_other n st _ _ _ _ (ap type_beginning e) o
block_statement_reads (g.if_else e f d k x q y) n st l o = block_other n st _ _ _ _ (ap type_beginning e) o
block_statement_reads (g.while_loop e f d k x) n st l o = block_other n st _ _ _ _ (ap type_beginning e) o
block_statement_reads (g.do_loop e x f k d q p) n st l o = block_other n st _ _ _ _ (ap type_beginning e) o
block_statement_reads (g.for_loop e f is c es x) n st l o = block_other n st _ _ _ _ (ap type_beginning e) o
block_statement_reads (g.return_with e v) n st l o = block_other n st _ _ _ _ (ap type_beginning e) o
block_statement_reads (g.throw e d f) n st l o = block_other n st _ _ _ _ (ap type_beginning e) o
block_statement_reads (g.break_loop e f) n st l o = block_other n st _ _ _ _ (ap type_beginning e) o
block_statement_reads (g.continue_loop e f) n st l o = block_other n st _ _ _ _ (ap type_beginning e) o
block_statement_reads (g.try_catch e b cs) n st l o = block_other n st _ _ _ _ (ap type_beginning e) o

block_statement_at : (n : ℕ) {i m : Lexemes} {x : PlainStmt} {h : ℕ} → Statement i m x h → h ≤ n → statement n i ≡ (Ok (x, h), m) → block_statement n (statement n) i ≡ (Ok (x ∷ [], h), m)
block_statement_at zero d l o = absurd (omega (arith, statement_tall d))
block_statement_at (suc n) d l o = block_statement_reads d n (statement (suc n)) l o

block_locals : (n : ℕ) {i m k : Lexemes} {ty : TypeName} {vs : List Variable} {h : ℕ} → TypeRead i m ty → Variables m k vs h → suc (max ty.dims h) ≤ n → block_statement n (statement n) i ≡ (Ok (local_nodes (first_at i) ty vs, suc (max ty.dims h)), k)
unfolding block_statement
block_locals zero r v l = absurd (omega arith)
block_locals (suc n) r v l = locals_read r v n site.DeclaredName (block_evaluation n (statement (suc n))) (omega arith) (omega arith)

abbrev a_statement_read : PlainStmt → ℕ → Lexemes → Outcome (PlainStmt × ℕ)
a_statement_read x h a = (Ok (x, h), a)

abbrev some_catches : PlainCatch → ℕ → Lexemes → Outcome (List PlainCatch × ℕ)
some_catches c h a = (Ok (c ∷ [], h), a)

a_catch_reads : (n : ℕ) (m : Lexemes) {a : Lexemes} {ss : PlainStmts} {h : ℕ} → block n (statement n) site.Elsewhere m ≡ (Ok (list_stmts ss, h), a) → (t u v w z : Lexeme) → t.terminal ≡ terminal.Catch → u.terminal ≡ terminal.LeftParen → v.terminal ≡ terminal.Identifier
    → w.terminal ≡ terminal.Identifier → z.terminal ≡ terminal.RightParen → catch_clause n (statement n) (t ∷ u ∷ v ∷ w ∷ z ∷ m) ≡ (Ok (tree.catch_of_class v.word w.word ss ∷ [], h), a)
a_catch_reads n m {a = a} {ss = ss} {h = h} b t u v w z e f k o p =
    catch_reads n (statement n) t u v w z m a (list_stmts ss, h) e f k o p b ∙ ap (λ ss. some_catches (tree.catch_of_class v.word w.word ss) h a) (stmts_back ss)

mutual
  -- no catch may stand behind, as it would be one more of a `try`
  statement_from : {i a : Lexemes} {x : PlainStmt} {h : ℕ} → Statement i a x h → (n : ℕ) → h ≤ suc n → sees mark.Catch a ≡ false → statement (suc n) i ≡ (Ok (x, h), a)
  statement_from (g.block {i = i} {a = a} {ss = ss} {h = h} b) n l w =
      statement_as n i heading.Block (ap heading_of (block_brace b)) (bind (block_reads b n (omega arith) site.Elsewhere) _ (ap (λ ss. a_statement_read (tree.block (first_at i) ss) (suc h) a) (stmts_back ss)))
  statement_from (g.empty {t = t} {a = a} e) n l w = statement_as n (t ∷ a) heading.Empty (ap heading_of e) refl
  statement_from (g.evaluate {i = i} d c e) n l w = statement_as n i heading.Other (expression_heading (terminal_at i) (expression_begins d)) (evaluated_reads d c e at_start n (omega arith) site.StatementName)
  statement_from (g.if_only {t = t} {u = u} {v = v} {m = m} {n = k} {a = a} {c = c} {x = x} {g = f} {h = h} e p d q y o) n l w =
      statement_as n (t ∷ u ∷ m) heading.If (ap heading_of e) (if_reads n (statement n) t.at t (u ∷ m) k a (c, f) (x, h) (omega (arith, tall d)) (condition_reads u p d q n (omega arith))
      (at_statement n k (statement_tall y) (omega arith) (λ j z. statement_from y j z w)) (without_else (statement n) t.at (c, f) (x, h) a o))
  statement_from (g.if_else {t = t} {u = u} {v = v} {w = r} {m = m} {n = k} {k = j} {a = a} {c = c} {x = x} {y = y} {f = f} {g = middle} {h = h} e p d q dx o dy) n l w =
      statement_as n (t ∷ u ∷ m) heading.If (ap heading_of e) (if_reads n (statement n) t.at t (u ∷ m) k (r ∷ j) (c, f) (x, middle) (omega (arith, tall d)) (condition_reads u p d q n (omega arith))
      (at_statement n k (statement_tall dx) (omega arith) (λ i z. statement_from dx i z (unseen mark.Catch (r ∷ j) o refl)))
      (with_else (statement n) t.at (c, f) (x, middle) (y, h) r j a o (at_statement n j (statement_tall dy) (omega arith) (λ i z. statement_from dy i z w))))
  statement_from (g.while_loop {t = t} {u = u} {v = v} {m = m} {n = k} {a = a} {c = c} {x = x} {g = f} {h = h} e p d q y) n l w =
      statement_as n (t ∷ u ∷ m) heading.While (ap heading_of e) (while_reads n (statement n) t.at t (u ∷ m) k a (c, f) (x, h) (omega (arith, tall d)) (condition_reads u p d q n (omega arith))
      (at_statement n k (statement_tall y) (omega arith) (λ j z. statement_from y j z w)))
  statement_from (g.do_loop {t = t} {u = u} {v = v} {w = r} {z = z} {m = m} {n = k} {a = a} {c = c} {x = x} {g = f} {h = h} e y o p d q b) n l w =
      statement_as n (t ∷ m) heading.Do (ap heading_of e) (do_reads n (statement n) t.at t u z m (v ∷ k) a (c, h) (x, f) (omega (arith, tall d))
      (at_statement n m (statement_tall y) (omega arith) (λ j z. statement_from y j z (unseen mark.Catch (u ∷ v ∷ k) o refl))) o (condition_reads v p d q n (omega arith)) b)
  statement_from (g.for_loop {x = x} e p is c es y) zero l w = absurd (omega (arith, statement_tall y))
  statement_from (g.for_loop {t = t} {u = u} {m = m} {n = i} {k = j} {l = k} {a = a} {is = is} {c = c} {es = es} {x = x} {e = outer} {f = f} {g = middle} {h = h} e p di dc de y) (suc n) l w =
      statement_as (suc n) (t ∷ u ∷ m) heading.For (ap heading_of e) (for_reads n (statement (suc n)) t.at t u m i j k a (list_stmts is, outer) (c, f) (es, middle) (x, h) p (init_reads di n (omega arith)) (maybe_reads dc (suc n) (omega arith))
      (update_reads de (suc n) (omega arith)) (at_statement (suc n) k (statement_tall y) (omega arith) (λ j z. statement_from y j z w))
      ∙ ap (λ is. a_statement_read (tree.for_loop t.at is c es x) (suc (max outer (max f (max middle h)))) a) (stmts_back is))
  statement_from (g.return_with {t = t} {m = m} e v) n l w = statement_as n (t ∷ m) heading.Return (ap heading_of e) (bind (maybe_reads v n (omega arith)) _ refl)
  statement_from (g.throw {t = t} {u = u} {m = m} {a = a} {x = x} {h = h} e d f) n l w =
      statement_as n (t ∷ m) heading.Throw (ap heading_of e) (throw_reads n t.at t u m a (x, h) (omega (arith, tall d)) (value_reads d n (omega arith) (ap closes f)) f)
  statement_from (g.break_loop {t = t} {u = u} {a = a} e f) n l w = statement_as n (t ∷ u ∷ a) heading.Break (ap heading_of e) (bind (expect_reads mark.Semicolon site.Elsewhere u a f) _ refl)
  statement_from (g.continue_loop {t = t} {u = u} {a = a} e f) n l w = statement_as n (t ∷ u ∷ a) heading.Continue (ap heading_of e) (bind (expect_reads mark.Semicolon site.Elsewhere u a f) _ refl)
  statement_from (g.try_catch {t = t} {m = m} {n = k} {a = a} {ss = ss} {cs = cs} {g = f} {h = h} e b ds) n l w =
      statement_as n (t ∷ m) heading.Try (ap heading_of e) (try_reads n (statement n) t.at t m k a (list_stmts ss, f) (list_catches cs, h) (block_reads b n (omega arith) site.Elsewhere) (catches_read ds n (omega arith) w)
      ∙ ap (λ ss. a_statement_read (tree.try_catch t.at ss (catches_from (list_catches cs))) (suc (max f h)) a) (stmts_back ss) ∙ ap (λ cs. a_statement_read (tree.try_catch t.at ss cs) (suc (max f h)) a) (catches_back cs))

  pub block_reads : {i a : Lexemes} {ss : PlainStmts} {h : ℕ} → Block i a ss h → (n : ℕ) → h ≤ n → (w : Site) → block n (statement n) w i ≡ (Ok (list_stmts ss, h), a)
  block_reads (g.braces {t = t} {u = u} {m = m} {a = a} {ss = ss} {h = h} e d f) n l w = block_from n (statement n) w t u m a (list_stmts ss) h e (statements_read d n l f) f

  pub statements_read : {i a : Lexemes} {ss : PlainStmts} {h : ℕ} → Statements i a ss h → (n : ℕ) → h ≤ n → terminal_at a ≡ terminal.RightBrace → Many is_inside (block_statement n (statement n)) i a (list_stmts ss) h
  statements_read g.no_statement n l e = done (ap is_inside e)
  statements_read (g.a_statement {i = i} {m = m} d ds) n l e =
      turn (goes_inside i (statement_opens d)) (block_statement_at n d (omega arith) (at_statement n i (statement_tall d) (omega arith) (λ j z. statement_from d j z (statements_follow ds e)))) (statement_takes d)
      (statements_read ds n (omega arith) e) refl refl
  statements_read (g.locals {i = i} {m = m} {n = k} {a = a} {ty = ty} {vs = vs} {ss = ss} r v ds) n l e =
      turn (goes_inside i (names_opens (terminal_at i) (type_named r))) (block_locals n r v (omega arith)) (omega (arith, type_takes r, variables_take v)) (statements_read ds n (omega arith) e) (nodes_listed (first_at i) ty vs ss) refl

  catches_read : {i a : Lexemes} {cs : PlainCatches} {h : ℕ} → Catches i a cs h → (n : ℕ) → h ≤ n → sees mark.Catch a ≡ false → catch_clauses n (statement n) i ≡ (Ok (list_catches cs, h), a)
  catches_read (g.last_catch {t = t} {u = u} {v = v} {w = r} {z = z} {m = m} {a = a} {ss = ss} {h = h} e f k o p b) n l w =
      catch_clauses_read n (statement n) (t ∷ u ∷ v ∷ r ∷ z ∷ m) a a (tree.catch_of_class v.word r.word ss) [] h 0 (a_catch_reads n m (block_reads b n l site.Elsewhere) t u v r z e f k o p) (done w) ∙ read_as a refl (omega arith)
  catches_read (g.more_catches {t = t} {u = u} {v = v} {w = r} {z = z} {m = m} {n = j} {a = a} {ss = ss} {cs = cs} {g = middle} {h = h} e f k o p b ds) n l w =
      catch_clauses_read n (statement n) (t ∷ u ∷ v ∷ r ∷ z ∷ m) j a (tree.catch_of_class v.word r.word ss) (list_catches cs) middle h (a_catch_reads n m (block_reads b n (omega arith) site.Elsewhere) t u v r z e f k o p) (catches_many ds n (omega arith) w)

  catches_many : {i a : Lexemes} {cs : PlainCatches} {h : ℕ} → Catches i a cs h → (n : ℕ) → h ≤ n → sees mark.Catch a ≡ false → Many (is_mark mark.Catch) (catch_clause n (statement n)) i a (list_catches cs) h
  catches_many (g.last_catch {t = t} {u = u} {v = v} {w = r} {z = z} {m = m} {h = h} e f k o p b) n l w =
      turn (seen mark.Catch t (u ∷ v ∷ r ∷ z ∷ m) e) (a_catch_reads n m (block_reads b n l site.Elsewhere) t u v r z e f k o p) (omega (arith, block_takes b)) (done w) refl (omega arith)
  catches_many (g.more_catches {t = t} {u = u} {v = v} {w = r} {z = z} {m = m} e f k o p b ds) n l w =
      turn (seen mark.Catch t (u ∷ v ∷ r ∷ z ∷ m) e) (a_catch_reads n m (block_reads b n (omega arith) site.Elsewhere) t u v r z e f k o p) (omega (arith, block_takes b)) (catches_many ds n (omega arith) w) refl refl
