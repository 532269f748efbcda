-- Bodies of methods and constructors
use Rattle.std.proofs.Common.{◌≡◌, refl, ap, sym, ◌∙◌, subst, ℕ, zero, suc, ◌<◌, ◌≤◌, max, Bool, true, false, if◌then◌else◌, List, [], ◌∷◌, ◌++◌, Ok, Err, arith}
use Rattle.bcj_parser_trees.specs.declared.names.TypeName.{TypeName}
use Rattle.bcj_parser_trees.specs.declared.names.Mods.{Mods}
use Rattle.bcj_parser_trees.specs.declared.names.Param.{Param}
use Rattle.bcj_parser_trees.specs.Trees as tree
use Rattle.bcj_parser_trees.specs.Trees.{PlainExpr, PlainExprs, PlainStmt, PlainStmts, PlainBody, PlainFirst, PlainMember, stmts_from}
use Rattle.bcj_parser_rules.specs.declared.kind.Mark.{Mark}
use Rattle.bcj_parser_rules.specs.declared.kind.Mark.TheVariants as mark
use Rattle.bcj_parser_rules.specs.declared.kind.Beginning.TheVariants as begin
use Rattle.bcj_parser_rules.specs.declared.kind.Joining.{Joining}
use Rattle.bcj_parser_rules.specs.declared.kind.Joining.TheVariants as join
use Rattle.bcj_parser_rules.specs.declared.terminal.Terminal.{Terminal}
use Rattle.bcj_parser_rules.specs.declared.terminal.Terminal.TheVariants as terminal
use Rattle.bcj_parser_rules.specs.declared.stop.Stop.TheVariants.{Refused, TooDeep}
use Rattle.bcj_parser_rules.specs.declared.stop.Site.{Site}
use Rattle.bcj_parser_rules.specs.declared.stop.Site.TheVariants as site
use Rattle.bcj_parser_rules.specs.Lexemes.{Lexeme, Lexemes}
use Rattle.bcj_parser_rules.specs.Grammar as g
use Rattle.bcj_parser_rules.specs.Lexemes.{first_at}
use Rattle.bcj_parser_rules.specs.Grammar.{Derives, Arguments, Statement, Statements, Parameters, NamesBehind, BodyRead, FirstRead, is_statement_expression}
use Rattle.bcj_parser_rules.specs.Lexemes.{terminal_at}
use Rattle.bcj_parser_rules.specs.Marks.{is_mark}
use Rattle.bcj_parser_rules.specs.function.Kinds.{beginning, joining}
use Rattle.bcj_parser_rules.specs.function.Steps.{Outcome, then_read, ◌>>=◌, expect, sees}
use Rattle.bcj_parser_rules.specs.function.Expressions.{Begin, fresh, behind_this, behind_super, Read, super_operand, operand, operand_by, binds, climb, expression, is_step, needs_selector, below_selector, first_primary, statement_expression_from, statement_expression}
use Rattle.bcj_parser_rules.specs.function.Statements.{is_inside, block_statement, evaluated, statement}
use Rattle.bcj_parser_rules.specs.function.Declarations.{site_behind_throws, method_body, Members, method_rest, Body, body_from, first_call, begun_body, constructor_body, constructor}
use Rattle.bcj_parser_completeness.proofs.Terminals.{seen, unseen, true_false, mark_terminal}
use Rattle.bcj_parser_completeness.proofs.Steps.{bind, taking, passing, expect_reads}
use Rattle.bcj_parser_completeness.proofs.Lists.{Many}
use Rattle.bcj_parser_completeness.proofs.Follows.{closes}
use Rattle.bcj_parser_completeness.proofs.Climbing.{operand_as, climb_stops}
use Rattle.bcj_parser_completeness.proofs.Resuming.{Fails, bind_fails, no_tree}
use Rattle.bcj_parser_completeness.proofs.Shapes.{arguments_open}
use Rattle.bcj_parser_completeness.proofs.Expressions.{arguments_read}
use Rattle.bcj_parser_completeness.proofs.Evaluations.{Resumes, at_start, at_this, at_super, unselected, fails_from, ended_fails, evaluation_reads, evaluated_reads}
use Rattle.bcj_parser_completeness.proofs.StatementParts.{list_stmts, stmts_back, names_type, type_named, statements_from_read}
use Rattle.bcj_parser_completeness.proofs.Statements.{block_brace, block_reads, statements_read}
use Rattle.bcj_parser_completeness.proofs.Headers.{names_behind_read, parameters_read}

-- ---- methods

body_terminal : {i a : Lexemes} {b : PlainBody} {h : ℕ} → BodyRead i a b h → (k : Mark) → is_mark k terminal.Semicolon ≡ false → is_mark k terminal.LeftBrace ≡ false → sees k i ≡ false
body_terminal (g.no_block {t = t} {a = a} e) k p q = unseen k (t ∷ a) e p
body_terminal (g.a_block {i = i} b) k p q = unseen k i (block_brace b) q

abbrev the_body : PlainBody → ℕ → Lexemes → Outcome (PlainBody × ℕ)
the_body b h a = (Ok (b, h), a)

some_none : {ss : PlainStmts} → tree.with_body ss ≡ tree.no_body → ⊥
some_none e = cc

body_reads : {i a : Lexemes} {b : PlainBody} {h : ℕ} → BodyRead i a b h → (interface : Bool) → (interface ≡ true → b ≡ tree.no_body) → (r : ℕ) → h ≤ suc r → (w : Site) → method_body r interface w i ≡ (Ok (b, h), a)
unfolding method_body
body_reads (g.no_block {t = t} {a = a} e) interface c r l w = taking (seen mark.Semicolon t a e) _ refl
body_reads (g.a_block {i = i} b) true c r l w = absurd (some_none (c refl))
body_reads (g.a_block {i = i} {a = a} {ss = ss} {h = h} b) false c r l w =
    passing (unseen mark.Semicolon i (block_brace b) refl) _ (bind (block_reads b (suc r) l w) _ (ap (λ ss. the_body (tree.with_body ss) h a) (stmts_back ss)))

pub method_rest_reads : {n k l o : Lexemes} {ps : List Param} {throws : List (List ℕ)} {body : PlainBody} {d h : ℕ} → Parameters n k ps d → NamesBehind terminal.Throws k l throws → BodyRead l o body h → (interface : Bool) → (interface ≡ true → body ≡ tree.no_body)
    → (r : ℕ) → d ≤ suc r → h ≤ suc r → (at : ℕ) (mods : Mods) (ty : TypeName) (x : List ℕ) → method_rest r interface at mods ty x n ≡ (Ok (tree.method_member at mods ty x ps throws body ∷ [], suc (max ty.dims (max d h))), o)
unfolding method_rest
method_rest_reads {throws = throws} dp dn db interface c r p q at mods ty x =
    bind (parameters_read dp (suc r) p) _ (bind (names_behind_read mark.Throws dn (body_terminal db mark.Comma refl refl) (body_terminal db mark.Throws refl refl)) _ (bind (body_reads db interface c r q (site_behind_throws throws)) _ refl))

-- ---- constructors

abbrev the_call : PlainFirst → ℕ → List PlainStmt → ℕ → Lexemes → Outcome Body
the_call f fh ss h a = (Ok (record { first = f; first_high = fh; statements = ss; high = h }), a)

body_from_reads : (r : ℕ) (f : PlainFirst) (fh : ℕ) (found : List PlainStmt) (high : ℕ) (i a : Lexemes) (xs : List PlainStmt) (h : ℕ) → Many is_inside (block_statement (suc r) (statement (suc r))) i a xs h
    → body_from r f fh found high i ≡ (Ok (record { first = f; first_high = fh; statements = found ++ xs; high = max high h }), a)
unfolding body_from
body_from_reads r f fh found high i a xs h d = bind (statements_from_read (suc r) (statement (suc r)) i a xs h found high d) _ refl

whole_body : (r : ℕ) (f : PlainFirst) (fh : ℕ) {i a : Lexemes} {ss : PlainStmts} {h : ℕ} → Statements i a ss h → terminal_at a ≡ terminal.RightBrace → h ≤ suc r
    → body_from r f fh [] 0 i ≡ (Ok (record { first = f; first_high = fh; statements = list_stmts ss; high = h }), a)
whole_body r f fh {i = i} {a = a} {ss = ss} {h = h} d e l = body_from_reads r f fh [] 0 i a (list_stmts ss) h (statements_read d (suc r) l e) ∙ ap (λ h. the_call f fh (list_stmts ss) h a) (omega arith)

abbrev names_self : Terminal → Bool
names_self terminal.This = true
names_self terminal.Super = true
names_self _ = false

undotted : (j : Lexemes) → sees mark.Dot j ≡ false → expect mark.Dot site.Elsewhere j ≡ (Err (Refused site.Elsewhere), j)
unfolding expect
undotted j e = passing e _ refl

super_opened : (n : ℕ) (t : Lexeme) (j : Lexemes) → t.terminal ≡ terminal.Super → sees mark.Dot j ≡ false → Fails (expression (suc n) fresh 14 (t ∷ j)).0
unfolding expression operand super_operand
super_opened n t j e b = bind_fails (operand n (expression n) 14 t.at (t ∷ j)) _ (subst (λ (k : Terminal). Fails (operand_by n (expression n) 14 t.at (beginning k) (t ∷ j)).0) (sym e)
    (bind_fails (expect mark.Dot site.Elsewhere j) _ (subst (λ (o : Outcome (Unit {0})). Fails o.0) (sym (undotted j b)) tt)))

this_selected : (n : ℕ) (t : Lexeme) (j : Lexemes) → t.terminal ≡ terminal.This → joining (terminal_at j) ≡ join.Nothing → below_selector (suc n) t.at (t ∷ j) ≡ (Ok (tree.this_value t.at, 1), j)
unfolding below_selector
this_selected n t j e b = operand_as n (expression n) 14 t.at t j begin.This (ap beginning e) refl

this_first_primary : (n : ℕ) (t : Lexeme) (j : Lexemes) → t.terminal ≡ terminal.This → first_primary n (t ∷ j) ≡ (below_selector n t.at >>= climb n (expression n) (suc n) 14 t.at) (t ∷ j)
unfolding first_primary
this_first_primary n t j e = ap (λ k. if needs_selector (beginning k) then (below_selector n t.at >>= climb n (expression n) (suc n) 14 t.at) (t ∷ j) else expression (suc n) fresh 14 (t ∷ j)) e

no_room : (at : ℕ) (i : Lexemes) → below_selector 0 at i ≡ (Err TooDeep, i)
unfolding below_selector
no_room at i = refl

this_closed : (n : ℕ) (w : Site) (t : Lexeme) (j : Lexemes) → t.terminal ≡ terminal.This → joining (terminal_at j) ≡ join.Nothing → Fails (statement_expression_from n fresh w (t ∷ j)).0
this_closed zero w t j k q = bind_fails (first_primary 0 (t ∷ j)) _ (subst (λ (o : Outcome Read). Fails o.0) (sym (this_first_primary 0 t j k ∙ ap (λ o. then_read o (climb 0 (expression 0) 1 14 t.at)) (no_room t.at (t ∷ j)))) tt)
this_closed (suc n) w t j k q =
    let r : first_primary (suc n) (t ∷ j) ≡ (Ok (tree.this_value t.at, 1), j) = this_first_primary (suc n) t j k ∙ bind (this_selected n t j k q) _
    (climb_stops (suc n) (expression (suc n)) (suc (suc n)) 14 t.at (tree.this_value t.at, 1) j (subst (λ (k : Joining). binds k < 14) (sym q) (omega arith))) in
    subst (λ (o : Outcome Read). Fails o.0) (sym (bind r _ refl)) (ended_fails (suc n) t.at w (tree.this_value t.at, 1) j q refl)

-- a call of a constructor is no expression
self_call : (n : ℕ) (w : Site) (t : Lexeme) (j : Lexemes) → names_self t.terminal ≡ true → sees mark.LeftParen j ≡ true → Fails (statement_expression (suc n) fresh w (t ∷ j)).0
self_call n w t j e p = by t.terminal refl e where
  this : t.terminal ≡ terminal.This → Fails (statement_expression (suc n) fresh w (t ∷ j)).0
  this k = fails_from n w (t ∷ j) (ap (λ k. is_step (beginning k)) k) (this_closed n w t j k (ap joining (mark_terminal mark.LeftParen (terminal_at j) p)))

  super_at : t.terminal ≡ terminal.Super → Fails (statement_expression (suc n) fresh w (t ∷ j)).0
  super_at k = fails_from n w (t ∷ j) (ap (λ k. is_step (beginning k)) k) (bind_fails (first_primary n (t ∷ j)) _ (subst (λ (o : Outcome Read). Fails o.0) (sym (unselected n (t ∷ j) (ap (λ k. needs_selector (beginning k)) k))) (super_opened n t j k (unseen mark.Dot j (mark_terminal mark.LeftParen (terminal_at j) p) refl))))

  by : (k : Terminal) → t.terminal ≡ k → names_self k ≡ true → Fails (statement_expression (suc n) fresh w (t ∷ j)).0
  by terminal.This k e = this k
  by terminal.Super k e = super_at k
  by _ k e = absurd (cc)

begun_statement : {i j m : Lexemes} {b : Begin} {x : PlainStmt} {h : ℕ} → Statement i m x h → names_self (terminal_at i) ≡ true → Resumes i b j → (r : ℕ) → h ≤ suc r → evaluated r b site.Elsewhere j ≡ (Ok (x, h), m)
begun_statement (g.evaluate d c e) z q r l = evaluated_reads d c e q r (omega arith) site.Elsewhere
begun_statement (g.block b) z q r l = absurd (true_false z (ap names_self (block_brace b)))
begun_statement (g.empty e) z q r l = absurd (true_false z (ap names_self e))
begun_statement (g.if_only e f d k x o) z q r l = absurd (true_false z (ap names_self e))
begun_statement (g.if_else e f d k x o y) z q r l = absurd (true_false z (ap names_self e))
begun_statement (g.while_loop e f d k x) z q r l = absurd (true_false z (ap names_self e))
begun_statement (g.do_loop e x f k d o p) z q r l = absurd (true_false z (ap names_self e))
begun_statement (g.for_loop e f is c es x) z q r l = absurd (true_false z (ap names_self e))
begun_statement (g.return_with e v) z q r l = absurd (true_false z (ap names_self e))
begun_statement (g.throw e d f) z q r l = absurd (true_false z (ap names_self e))
begun_statement (g.break_loop e f) z q r l = absurd (true_false z (ap names_self e))
begun_statement (g.continue_loop e f) z q r l = absurd (true_false z (ap names_self e))
begun_statement (g.try_catch e b cs) z q r l = absurd (true_false z (ap names_self e))

-- such a statement is no call of a constructor
self_unopened : {i m : Lexemes} {x : PlainStmt} {h : ℕ} → Statement i m x h → names_self (terminal_at i) ≡ true → (t : Lexeme) (j : Lexemes) → i ≡ t ∷ j → sees mark.LeftParen j ≡ true → ⊥
self_unopened (g.evaluate {t = u} {i = i} {a = a} {h = h} d c e) z t j p f =
    no_tree (ap (statement_expression (suc h) fresh site.Elsewhere) (sym p) ∙ evaluation_reads d c (suc h) (omega arith) (ap closes e) at_start site.Elsewhere) (self_call h site.Elsewhere t j (ap (λ i. names_self (terminal_at i)) (sym p) ∙ z) f)
self_unopened (g.block b) z t j p f = true_false z (ap names_self (block_brace b))
self_unopened (g.empty e) z t j p f = true_false z (ap names_self e)
self_unopened (g.if_only e k d q x o) z t j p f = true_false z (ap names_self e)
self_unopened (g.if_else e k d q x o y) z t j p f = true_false z (ap names_self e)
self_unopened (g.while_loop e k d q x) z t j p f = true_false z (ap names_self e)
self_unopened (g.do_loop e x k q d o y) z t j p f = true_false z (ap names_self e)
self_unopened (g.for_loop e k is c es x) z t j p f = true_false z (ap names_self e)
self_unopened (g.return_with e v) z t j p f = true_false z (ap names_self e)
self_unopened (g.throw e d k) z t j p f = true_false z (ap names_self e)
self_unopened (g.break_loop e k) z t j p f = true_false z (ap names_self e)
self_unopened (g.continue_loop e k) z t j p f = true_false z (ap names_self e)
self_unopened (g.try_catch e b cs) z t j p f = true_false z (ap names_self e)

unopened_self : {m : Lexemes} {x : PlainStmt} {h : ℕ} (t : Lexeme) (j : Lexemes) → Statement (t ∷ j) m x h → names_self t.terminal ≡ true → sees mark.LeftParen j ≡ false
unopened_self t j d z = by (sees mark.LeftParen j) refl where
  by : (b : Bool) → sees mark.LeftParen j ≡ b → b ≡ false
  by true f = absurd (self_unopened d z t j refl f)
  by false f = refl

names_apart : (j : Terminal) → names_self j ≡ true → names_type j ≡ false
names_apart terminal.This e = refl
names_apart terminal.Super e = refl
names_apart _ e = absurd (cc)

begun_body_reads : (r at : ℕ) (to_super : Bool) (t : Lexeme) (j : Lexemes) {b : Begin} {a : Lexemes} {ss : PlainStmts} {h : ℕ} → Statements (t ∷ j) a ss h → names_self t.terminal ≡ true → Resumes (t ∷ j) b j → terminal_at a ≡ terminal.RightBrace → h ≤ suc r
    → begun_body r at to_super b j ≡ (Ok (record { first = tree.no_first; first_high = 0; statements = list_stmts ss; high = h }), a)
unfolding begun_body
begun_body_reads r at to_super t j g.no_statement z q e l = absurd (true_false z (ap names_self e))
begun_body_reads r at to_super t j (g.locals d v ds) z q e l = absurd (true_false (type_named d) (names_apart t.terminal z))
begun_body_reads r at to_super t j {a = a} (g.a_statement {m = m} {x = x} {ss = ss} {g = f} {h = h} d ds) z q e l =
    passing (unopened_self t j d z) _ (bind (begun_statement d z q r (omega arith)) _ (body_from_reads r tree.no_first 0 (x ∷ []) f m a (list_stmts ss) h (statements_read ds (suc r) (omega arith) e)))

first_call_reads : {m a : Lexemes} {u : Lexeme} {es : PlainExprs} {f : ℕ} → Arguments m (u ∷ a) es f → u.terminal ≡ terminal.Semicolon → (r at : ℕ) (to_super : Bool) (b : Begin) {o : Lexemes} {ss : PlainStmts} {h : ℕ} → Statements a o ss h → terminal_at o ≡ terminal.RightBrace
    → suc f ≤ suc r → h ≤ suc r → begun_body r at to_super b m ≡ (Ok (record { first = tree.first_call at to_super es; first_high = suc f; statements = list_stmts ss; high = h }), o)
unfolding begun_body first_call
first_call_reads {a = a} {u = u} {es = es} {f = f} args e r at to_super b d k p q =
    taking (arguments_open args) _ (bind (arguments_read args r (omega arith)) _ (bind (expect_reads mark.Semicolon site.Elsewhere u a e) _ (whole_body r (tree.first_call at to_super es) (suc f) d k q)))

plain_body_reads : (r : ℕ) (i : Lexemes) {a : Lexemes} {ss : PlainStmts} {h : ℕ} → Statements i a ss h → terminal_at a ≡ terminal.RightBrace → h ≤ suc r
    → constructor_body r i ≡ (Ok (record { first = tree.no_first; first_high = 0; statements = list_stmts ss; high = h }), a)
unfolding constructor_body
plain_body_reads r i {a = a} {ss = ss} {h = h} d e l = by (sees mark.This i) (sees mark.Super i) i refl refl d where
  by : (b c : Bool) (i : Lexemes) → sees mark.This i ≡ b → sees mark.Super i ≡ c → Statements i a ss h → constructor_body r i ≡ (Ok (record { first = tree.no_first; first_high = 0; statements = list_stmts ss; high = h }), a)
  by true c [] p q d = absurd (cc)
  by true c (t ∷ j) p q d = let k : t.terminal ≡ terminal.This = mark_terminal mark.This t.terminal p in taking p _ (begun_body_reads r t.at false t j d (ap names_self k) (at_this k) e l)
  by false true [] p q d = absurd (cc)
  by false true (t ∷ j) p q d = let k : t.terminal ≡ terminal.Super = mark_terminal mark.Super t.terminal q in passing p _ (taking q _ (begun_body_reads r t.at true t j d (ap names_self k) (at_super k) e l))
  by false false i p q d = passing p _ (passing q _ (whole_body r tree.no_first 0 d e l))

constructor_body_reads : {i m a : Lexemes} {first : PlainFirst} {ss : PlainStmts} {f h : ℕ} → FirstRead i m first f → Statements m a ss h → terminal_at a ≡ terminal.RightBrace → (r : ℕ) → f ≤ suc r → h ≤ suc r
    → constructor_body r i ≡ (Ok (record { first = first; first_high = f; statements = list_stmts ss; high = h }), a)
unfolding constructor_body
constructor_body_reads (g.no_call {a = i}) d e r p q = plain_body_reads r i d e q
constructor_body_reads (g.to_this {t = t} {m = m} k args c) d e r p q = taking (seen mark.This t m k) _ (first_call_reads args c r t.at false (behind_this t.at) d e p q)
constructor_body_reads (g.to_super {t = t} {m = m} k args c) d e r p q =
    passing (unseen mark.This (t ∷ m) k refl) _ (taking (seen mark.Super t m k) _ (first_call_reads args c r t.at true (behind_super t.at) d e p q))

abbrev the_member : PlainMember → ℕ → Lexemes → Outcome Members
the_member x h a = (Ok (x ∷ [], h), a)

pub constructor_reads : {n k l o p : Lexemes} {u v : Lexeme} {ps : List Param} {throws : List (List ℕ)} {first : PlainFirst} {ss : PlainStmts} {d f h : ℕ} → Parameters n k ps d → NamesBehind terminal.Throws k (u ∷ l) throws → u.terminal ≡ terminal.LeftBrace
    → FirstRead l o first f → Statements o (v ∷ p) ss h → v.terminal ≡ terminal.RightBrace → (r : ℕ) → d ≤ suc r → f ≤ suc r → h ≤ suc r → (at : ℕ) (mods : Mods) (x : List ℕ)
    → constructor r at mods x n ≡ (Ok (tree.constructor_member at mods x ps throws first ss ∷ [], suc (max d (max f h))), p)
unfolding constructor
constructor_reads {l = l} {p = p} {u = u} {v = v} {ps = ps} {throws = throws} {first = first} {ss = ss} {d = d} {f = f} {h = h} dp dn e df ds k r x y z at mods name =
    bind (parameters_read dp (suc r) x) _ (bind (names_behind_read mark.Throws dn (unseen mark.Comma (u ∷ l) e refl) (unseen mark.Throws (u ∷ l) e refl)) _
    (bind (expect_reads mark.LeftBrace (site_behind_throws throws) u l e) _ (bind (constructor_body_reads df ds k r y z) _ (bind (expect_reads mark.RightBrace site.Elsewhere v p k) _
    (ap (λ ss. the_member (tree.constructor_member at mods name ps throws first ss) (suc (max d (max f h))) p) (stmts_back ss))))))
