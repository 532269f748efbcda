-- Expressions that are statements, from their first token or behind some of their tokens
use Rattle.std.proofs.Common.{◌≡◌, refl, ap, sym, ◌∙◌, subst, ℕ, zero, suc, ◌<◌, ◌≤◌, Bool, true, false, ◌||◌, if◌then◌else◌, [], ◌∷◌, Some, None, Ok, arith, ◌⊎◌, inl, inr}
use Rattle.bcj_parser_trees.specs.Trees as tree
use Rattle.bcj_parser_trees.specs.Trees.{PlainExpr, PlainExprs, PlainStmt}
use Rattle.bcj_parser_rules.specs.declared.kind.Mark.{Mark}
use Rattle.bcj_parser_rules.specs.declared.kind.Mark.TheVariants as mark
use Rattle.bcj_parser_rules.specs.declared.kind.Joining.{Joining}
use Rattle.bcj_parser_rules.specs.declared.kind.Joining.TheVariants as join
use Rattle.bcj_parser_rules.specs.declared.kind.TypeBeginning.TheVariants as typed
use Rattle.bcj_parser_rules.specs.declared.terminal.Terminal.{Terminal}
use Rattle.bcj_parser_rules.specs.declared.terminal.Terminal.TheVariants as terminal
use Rattle.bcj_parser_rules.specs.declared.stop.Site.{Site}
use Rattle.bcj_parser_rules.specs.declared.stop.Site.TheVariants as site
use Rattle.bcj_parser_rules.specs.Lexemes.{Lexeme, Lexemes}
use Rattle.bcj_parser_rules.specs.Grammar as g
use Rattle.bcj_parser_rules.specs.Lexemes.{first_at}
use Rattle.bcj_parser_rules.specs.Grammar.{Derives, Evaluations, step_terminal, is_place, is_statement_expression}
use Rattle.bcj_parser_rules.specs.Lexemes.{terminal_at}
use Rattle.bcj_parser_rules.specs.Marks.{is_mark}
use Rattle.bcj_parser_rules.specs.function.Kinds.{terminal_of_mark, beginning, joining, type_beginning}
use Rattle.bcj_parser_rules.specs.function.Steps.{Outcome, Parser, ◌>>=◌, sees}
use Rattle.bcj_parser_rules.specs.function.Expressions.{Begin, fresh, behind_name, behind_bracket, behind_this, behind_super, start_of, Read, Inner, binds, begins, climb, expression, is_step, ended_by, ended, needs_selector, below_selector, first_primary, primary_from, statement_expression_from, statement_expression}
use Rattle.bcj_parser_rules.specs.function.Statements.{Nodes, named_local, local_by, local_or, evaluated, evaluations}
use Rattle.bcj_parser_completeness.proofs.Terminals.{seen, unseen, true_false, mark_terminal}
use Rattle.bcj_parser_completeness.proofs.Steps.{bind, taking, passing, expect_reads}
use Rattle.bcj_parser_completeness.proofs.Lists.{Line, line_last, line_more, line_reads}
use Rattle.bcj_parser_completeness.proofs.Follows.{closes, closes_joining, closed_at, Stops, joined_on, step_begins, step_joins, step_on, untyped}
use Rattle.bcj_parser_completeness.proofs.Climbing.{taking_at, passing_at, finish, selected, joined_reads, at_room}
use Rattle.bcj_parser_completeness.proofs.Resuming.{Fails, bind_fails, no_tree, name_first, this_first, super_first, name_alone, bracket_first, empty_brackets}
use Rattle.bcj_parser_completeness.proofs.Lengths.{expression_takes}
use Rattle.bcj_parser_completeness.proofs.Shapes.{tall, primary, primary_begins, no_step, list_of}
use Rattle.bcj_parser_completeness.proofs.Expressions.{reach, is_bare, select}

-- behind tokens of the items that were taken
pub data Resumes : Lexemes → Begin → Lexemes → Type 0 where
  at_start : {i : Lexemes} → Resumes i fresh i
  at_name : {t : Lexeme} {j : Lexemes} → t.terminal ≡ terminal.Identifier → Resumes (t ∷ j) (behind_name t.at t.word) j
  at_bracket : {t u : Lexeme} {j : Lexemes} → t.terminal ≡ terminal.Identifier → u.terminal ≡ terminal.LeftBracket → Resumes (t ∷ u ∷ j) (behind_bracket t.at t.word) j
  at_this : {t : Lexeme} {j : Lexemes} → t.terminal ≡ terminal.This → Resumes (t ∷ j) (behind_this t.at) j
  at_super : {t : Lexeme} {j : Lexemes} → t.terminal ≡ terminal.Super → Resumes (t ∷ j) (behind_super t.at) j

resumed : {i j : Lexemes} {b : Begin} → Resumes i b j → (n least : ℕ) (a : Lexemes) (y : Read) → least ≤ 14 → expression (suc n) fresh least i ≡ (Ok y, a) → y.1 ≤ suc n → expression (suc n) b least j ≡ (Ok y, a)
resumed at_start n least a y l e low = e
resumed (at_name {t = t} {j = j} p) n least a y l e low = sym (name_first n least t j p) ∙ e
resumed (at_bracket {t = t} {u = u} {j = j} p q) n least a y l e low = bracket_first n least t u j a y l p q e low
resumed (at_this {t = t} {j = j} p) n least a y l e low = sym (this_first n least t j p) ∙ e
resumed (at_super {t = t} {j = j} p) n least a y l e low = sym (super_first n least t j p) ∙ e

resumed_start : {i j : Lexemes} {b : Begin} → Resumes i b j → start_of b j ≡ first_at i
resumed_start at_start = refl
resumed_start (at_name p) = refl
resumed_start (at_bracket p q) = refl
resumed_start (at_this p) = refl
resumed_start (at_super p) = refl

not_stepped : {i j : Lexemes} {b : Begin} → Resumes i b j → is_step (beginning (terminal_at i)) ≡ false → (n : ℕ) (w : Site) {o : Outcome Read} → statement_expression_from n b w j ≡ o → statement_expression (suc n) b w j ≡ o
unfolding statement_expression
not_stepped at_start f n w e = passing f _ e
not_stepped (at_name p) f n w e = e
not_stepped (at_bracket p q) f n w e = e
not_stepped (at_this p) f n w e = e
not_stepped (at_super p) f n w e = e

stepped : {i j : Lexemes} {b : Begin} → Resumes i b j → is_step (beginning (terminal_at i)) ≡ true → (n : ℕ) (w : Site) {o : Outcome Read} → expression (suc n) fresh 13 i ≡ o → statement_expression (suc n) b w j ≡ o
unfolding statement_expression
stepped at_start f n w e = taking f _ e
stepped (at_name p) f n w e = absurd (true_false f (ap (λ k. is_step (beginning k)) p))
stepped (at_bracket p q) f n w e = absurd (true_false f (ap (λ k. is_step (beginning k)) p))
stepped (at_this p) f n w e = absurd (true_false f (ap (λ k. is_step (beginning k)) p))
stepped (at_super p) f n w e = absurd (true_false f (ap (λ k. is_step (beginning k)) p))

ended_as : (n : ℕ) (inner : Inner) (at : ℕ) (w : Site) (l : Read) (i : Lexemes) {o : Outcome Read} (j : Joining) → joining (terminal_at i) ≡ j → ended_by n inner at w l j i ≡ o → ended n inner at w l i ≡ o
unfolding ended
ended_as n inner at w l i j e h = ap (λ j. ended_by n inner at w l j i) e ∙ h

or_first : {a : Bool} (b : Bool) → a ≡ true → (a || b) ≡ true
or_first b e = rw e refl

or_second : (a : Bool) {b : Bool} → b ≡ true → (a || b) ≡ true
or_second true e = refl
or_second false e = e

-- in any room of it, and below a selector that it needs
record Primary (n : ℕ) (i m : Lexemes) (y : Read) : Type 0 where
  reads : expression (suc n) fresh 14 i ≡ (Ok y, m)
  low : y.1 ≤ suc n
  selects : needs_selector (beginning (terminal_at i)) ≡ true → (below_selector n (first_at i) >>= climb n (expression n) (suc n) 14 (first_at i)) i ≡ (Ok y, m)

unbare : (x : PlainExpr) → (is_statement_expression x || is_place x) ≡ true → is_bare x ≡ true → ⊥
unbare (tree.int_literal at v d) c b = absurd (cc)
unbare (tree.bool_literal at v) c b = absurd (cc)
unbare (tree.null_literal at) c b = absurd (cc)
unbare (tree.this_value at) c b = absurd (cc)
unbare (tree.paren at x) c b = absurd (cc)
unbare _ c b = absurd (cc)

the_primary : {i m : Lexemes} {x : PlainExpr} {h : ℕ} → Derives 14 i m x h → (is_statement_expression x || is_place x) ≡ true → (n : ℕ) → h ≤ suc n → Stops 14 x m → binds (joining (terminal_at m)) < 14 → Primary n i m (x, h)
the_primary {x = x} d c n l w b = record {
  reads = finish (reach d n 14 (omega arith) (omega arith) l w) b;
  low = l;
  selects = λ z. selected (select d (primary d (omega arith)) (omega arith) z n l (λ e. absurd (unbare x c e)) w) b;
}

first_reads : (n : ℕ) (i m : Lexemes) (y : Read) → Primary n i m y → first_primary n i ≡ (Ok y, m)
unfolding first_primary
first_reads n i m y p = by (needs_selector (beginning (terminal_at i))) refl where
  by : (c : Bool) → needs_selector (beginning (terminal_at i)) ≡ c
      → (if c then (below_selector n (first_at i) >>= climb n (expression n) (suc n) 14 (first_at i)) i else expression (suc n) fresh 14 i) ≡ (Ok y, m)
  by true e = p.selects e
  by false e = p.reads

pub unselected : (n : ℕ) (i : Lexemes) → needs_selector (beginning (terminal_at i)) ≡ false → first_primary n i ≡ expression (suc n) fresh 14 i
unfolding first_primary
unselected n i e = ap (λ c. if c then (below_selector n (first_at i) >>= climb n (expression n) (suc n) 14 (first_at i)) i else expression (suc n) fresh 14 i) e

primary_resumed : {i j m : Lexemes} {b : Begin} → Resumes i b j → (n : ℕ) (y : Read) → Primary n i m y → primary_from n b j ≡ (Ok y, m)
primary_resumed {i = i} {m = m} at_start n y p = first_reads n i m y p
primary_resumed {m = m} (at_name o) n y p = resumed (at_name o) n 14 m y (omega arith) p.reads p.low
primary_resumed {m = m} (at_bracket o q) n y p = resumed (at_bracket o q) n 14 m y (omega arith) p.reads p.low
primary_resumed {m = m} (at_this o) n y p = resumed (at_this o) n 14 m y (omega arith) p.reads p.low
primary_resumed {m = m} (at_super o) n y p = resumed (at_super o) n 14 m y (omega arith) p.reads p.low

-- behind the primary that it begins with
from_primary : {i j m : Lexemes} {b : Begin} → Resumes i b j → begins 14 (beginning (terminal_at i)) ≡ true → (n : ℕ) (w : Site) (y : Read) {o : Outcome Read} (k : Joining) → Primary n i m y
    → joining (terminal_at m) ≡ k → ended_by n (expression n) (first_at i) w y k m ≡ o → statement_expression (suc n) b w j ≡ o
from_primary {i = i} {m = m} r p n w y k e f h = not_stepped r (no_step (beginning (terminal_at i)) p) n w
    (bind (primary_resumed r n y e) _ (ap (λ at. ended n (expression n) at w y m) (resumed_start r) ∙ ended_as n (expression n) (first_at i) w y m k f h))

primary_reads : {i j a : Lexemes} {b : Begin} {x : PlainExpr} {h : ℕ} → Derives 14 i a x h → is_statement_expression x ≡ true → (n : ℕ) → h ≤ suc n → closes (terminal_at a) ≡ true → Resumes i b j → (w : Site)
    → statement_expression (suc n) b w j ≡ (Ok (x, h), a)
primary_reads {a = a} {x = x} {h = h} d c n l e r w =
    let q : Stops 14 x a = closed_at 14 x a (omega arith) e in
    let k : joining (terminal_at a) ≡ join.Nothing = closes_joining (terminal_at a) e in
    from_primary r (primary_begins d (omega arith)) n w (x, h) join.Nothing (the_primary d (or_first (is_place x) c) n l q (subst (λ j. binds j < 14) (sym k) (omega arith))) k (taking_at c _ _ refl)

evaluation_from : {k h : ℕ} {i j a : Lexemes} {b : Begin} {x : PlainExpr} → Derives k i a x h → is_statement_expression x ≡ true → (n : ℕ) → 1 ≤ k → h ≤ suc n → closes (terminal_at a) ≡ true → Resumes i b j → (w : Site)
    → statement_expression (suc n) b w j ≡ (Ok (x, h), a)
evaluation_from (g.looser d) c n p l e r w = evaluation_from d c n (omega arith) l e r w
evaluation_from (g.assign {t = t} {i = i} {m = m} {a = a} {l = x} {r = y} {g = f} {h = h} d q o dy) c n p l e r w =
    from_primary r (primary_begins d (omega arith)) n w (x, f) (join.Assign None)
    (the_primary d (or_second (is_statement_expression x) q) n (omega arith) (joined_on 14 x t m o (omega arith) refl refl (λ _. refl)) (subst (λ j. binds (joining j) < 14) (sym o) (omega arith))) (ap joining o)
    (joined_reads n (expression n) (first_at i) (x, f) (join.Assign None) (t ∷ m) q (omega arith)
    (let z : Stops 1 y a = closed_at 1 y a (omega arith) e in bind (at_room n 1 (tall dy) (omega arith) (λ j v. reach dy j 1 (omega arith) (omega arith) v z) z.low) _ refl))
evaluation_from (g.compound {o = op} {t = t} {i = i} {m = m} {a = a} {l = x} {r = y} {g = f} {h = h} d q o dy) c n p l e r w =
    from_primary r (primary_begins d (omega arith)) n w (x, f) (join.Assign (Some op))
    (the_primary d (or_second (is_statement_expression x) q) n (omega arith) (joined_on 14 x t m o (omega arith) refl refl (λ _. refl)) (subst (λ j. binds (joining j) < 14) (sym o) (omega arith))) (ap joining o)
    (joined_reads n (expression n) (first_at i) (x, f) (join.Assign (Some op)) (t ∷ m) q (omega arith)
    (let z : Stops 1 y a = closed_at 1 y a (omega arith) e in bind (at_room n 1 (tall dy) (omega arith) (λ j v. reach dy j 1 (omega arith) (omega arith) v z) z.low) _ refl))
evaluation_from (g.step_before {plus = plus} {t = t} {m = m} {a = a} {x = x} {h = h} o d q) c n p l e r w =
    let z : Stops 13 (tree.step t.at plus false x) a = closed_at 13 _ a (omega arith) e in
    stepped r (ap is_step (step_begins t.terminal plus o)) n w (finish (reach (g.step_before o d q) n 13 (omega arith) (omega arith) l z) z.low)
evaluation_from (g.step_behind {plus = plus} {t = t} {i = i} {a = a} {x = x} {h = h} d q o) c n p l e r w =
    from_primary r (primary_begins d (omega arith)) n w (x, h) (join.Step plus)
    (the_primary d (or_second (is_statement_expression x) q) n (omega arith) (step_on x t a plus o) (subst (λ j. binds j < 14) (sym (step_joins t.terminal plus o)) (omega arith))) (step_joins t.terminal plus o)
    (joined_reads n (expression n) (first_at i) (x, h) (join.Step plus) (t ∷ a) q (omega arith) refl)
evaluation_from (g.new_object o f args) c n p l e r w = primary_reads (g.new_object o f args) c n l e r w
evaluation_from (g.call o args) c n p l e r w = primary_reads (g.call o args) c n l e r w
evaluation_from (g.super_call o f k args) c n p l e r w = primary_reads (g.super_call o f k args) c n l e r w
evaluation_from (g.dot_call d o f args) c n p l e r w = primary_reads (g.dot_call d o f args) c n l e r w
evaluation_from _ c n p l e r w = absurd (cc)

pub evaluation_reads : {i j a : Lexemes} {b : Begin} {x : PlainExpr} {h : ℕ} → Derives 1 i a x h → is_statement_expression x ≡ true → (n : ℕ) → h ≤ n → closes (terminal_at a) ≡ true → Resumes i b j → (w : Site)
    → statement_expression n b w j ≡ (Ok (x, h), a)
evaluation_reads d c zero l e r w = absurd (omega (arith, tall d))
evaluation_reads d c (suc n) l e r w = evaluation_from d c n (omega arith) l e r w

-- ---- what begins as a declaration or as an expression

-- items that begin an expression and no declaration
pub data Begun : Lexemes → Type 0 where
  begun_other : {i : Lexemes} → type_beginning (terminal_at i) ≡ typed.Nothing → Begun i
  begun_name : {t : Lexeme} {j : Lexemes} → t.terminal ≡ terminal.Identifier → sees mark.Identifier j ≡ false → sees mark.LeftBracket j ≡ false → Begun (t ∷ j)
  begun_bracket : {t u : Lexeme} {j : Lexemes} → t.terminal ≡ terminal.Identifier → u.terminal ≡ terminal.LeftBracket → sees mark.RightBracket j ≡ false → Begun (t ∷ u ∷ j)

pub fails_from : (n : ℕ) (w : Site) (i : Lexemes) → is_step (beginning (terminal_at i)) ≡ false → Fails (statement_expression_from n fresh w i).0 → Fails (statement_expression (suc n) fresh w i).0
unfolding statement_expression
fails_from n w i e f = subst (λ (b : Bool). Fails {A = Read} (if b then expression (suc n) fresh 13 i else statement_expression_from n fresh w i).0) (sym e) f

pub ended_fails : (n at : ℕ) (w : Site) (l : Read) (i : Lexemes) → joining (terminal_at i) ≡ join.Nothing → is_statement_expression l.0 ≡ false → Fails (ended n (expression n) at w l i).0
ended_fails n at w l i e c = subst (λ (o : Outcome Read). Fails o.0) (sym (ended_as n (expression n) at w l i join.Nothing e (passing_at c _ _ refl))) tt

two_names : (n : ℕ) (w : Site) (t : Lexeme) (j : Lexemes) → t.terminal ≡ terminal.Identifier → sees mark.Identifier j ≡ true → Fails (statement_expression (suc n) fresh w (t ∷ j)).0
two_names n w t j p q =
    let k : terminal_at j ≡ terminal.Identifier = mark_terminal mark.Identifier (terminal_at j) q in
    fails_from n w (t ∷ j) (ap (λ k. is_step (beginning k)) p)
    (subst (λ (o : Outcome Read). Fails o.0) (sym (bind (unselected n (t ∷ j) (ap (λ k. needs_selector (beginning k)) p) ∙ name_alone n 14 t j (omega arith) p (unseen mark.LeftParen j k refl) (ap joining k)) _ refl))
    (ended_fails n t.at w (tree.simple_name t.at t.word, 1) j (ap joining k) refl))

pub begun_at : (n : ℕ) (w : Site) (i : Lexemes) {y : Read} {a : Lexemes} → begins 1 (beginning (terminal_at i)) ≡ true → statement_expression (suc n) fresh w i ≡ (Ok y, a) → Begun i
begun_at n w i {y = y} {a = a} b e = by i (untyped (terminal_at i) b) e where
  bracketed : (t u : Lexeme) (j : Lexemes) → t.terminal ≡ terminal.Identifier → u.terminal ≡ terminal.LeftBracket → statement_expression (suc n) fresh w (t ∷ u ∷ j) ≡ (Ok y, a) → (c : Bool) → sees mark.RightBracket j ≡ c → Begun (t ∷ u ∷ j)
  bracketed t u j p q e true k = absurd (no_tree e (fails_from n w (t ∷ u ∷ j) (ap (λ k. is_step (beginning k)) p) (bind_fails (first_primary n (t ∷ u ∷ j)) _ (subst (λ (o : Outcome Read). Fails o.0) (sym (unselected n (t ∷ u ∷ j) (ap (λ k. needs_selector (beginning k)) p))) (empty_brackets n 14 t u j (omega arith) p q k)))))
  bracketed t u j p q e false k = begun_bracket p q k

  named : (t : Lexeme) (j : Lexemes) → t.terminal ≡ terminal.Identifier → statement_expression (suc n) fresh w (t ∷ j) ≡ (Ok y, a) → (c d : Bool) → sees mark.Identifier j ≡ c → sees mark.LeftBracket j ≡ d → Begun (t ∷ j)
  named t j p e true d k q = absurd (no_tree e (two_names n w t j p k))
  named t [] p e false true k q = absurd (cc)
  named t (u ∷ j) p e false true k q = bracketed t u j p (mark_terminal mark.LeftBracket u.terminal q) e (sees mark.RightBracket j) refl
  named t j p e false false k q = begun_name p k q

  by : (i : Lexemes) → (type_beginning (terminal_at i) ≡ typed.Nothing) ⊎ (terminal_at i ≡ terminal.Identifier) → statement_expression (suc n) fresh w i ≡ (Ok y, a) → Begun i
  by i (inl f) e = begun_other f
  by [] (inr f) e = absurd (cc)
  by (t ∷ j) (inr f) e = named t j f e (sees mark.Identifier j) (sees mark.LeftBracket j) refl refl

pub local_or_other : {i : Lexemes} → type_beginning (terminal_at i) ≡ typed.Nothing → (n : ℕ) (w : Site) (evaluation : Begin → Parser Nodes) {o : Outcome Nodes} → evaluation fresh i ≡ o → local_or n w evaluation i ≡ o
unfolding local_or
local_or_other {i = i} e n w evaluation h = ap (λ k. local_by n w evaluation (first_at i) k i) e ∙ h

pub by_name : (n : ℕ) (w : Site) (evaluation : Begin → Parser Nodes) (t : Lexeme) (j : Lexemes) {o : Outcome Nodes} → t.terminal ≡ terminal.Identifier → named_local n w evaluation t.at t.word j ≡ o → local_or n w evaluation (t ∷ j) ≡ o
unfolding local_or
by_name n w evaluation t j p h = ap (λ k. local_by n w evaluation t.at (type_beginning k) (t ∷ j)) p ∙ h

pub local_or_evaluates : {i : Lexemes} → Begun i → (n : ℕ) → 1 ≤ n → (w : Site) (evaluation : Begin → Parser Nodes) (o : Outcome Nodes) → ((b : Begin) (j : Lexemes) → Resumes i b j → evaluation b j ≡ o) → local_or n w evaluation i ≡ o
unfolding named_local
local_or_evaluates (begun_other e) n l w evaluation o f = local_or_other e n w evaluation (f fresh _ at_start)
local_or_evaluates (begun_name {t = t} {j = j} p q r) n l w evaluation o f = by_name n w evaluation t j p (passing q _ (passing r _ (f _ j (at_name p))))
local_or_evaluates (begun_bracket {t = t} {u = u} {j = j} p q r) zero l w evaluation o f = absurd (omega arith)
local_or_evaluates (begun_bracket {t = t} {u = u} {j = j} p q r) (suc n) l w evaluation o f =
    by_name (suc n) w evaluation t (u ∷ j) p (passing (unseen mark.Identifier (u ∷ j) q refl) _ (taking (seen mark.LeftBracket u j q) _ (passing r _ (f _ j (at_bracket p q)))))

-- ---- with a semicolon, and lists

abbrev the_statement : ℕ → PlainExpr → ℕ → Lexemes → Outcome (PlainStmt × ℕ)
the_statement at x h a = (Ok (tree.evaluate at x, suc h), a)

pub evaluated_reads : {i j a : Lexemes} {b : Begin} {t : Lexeme} {x : PlainExpr} {h : ℕ} → Derives 1 i (t ∷ a) x h → is_statement_expression x ≡ true → t.terminal ≡ terminal.Semicolon → Resumes i b j → (n : ℕ) → h ≤ n → (w : Site)
    → evaluated n b w j ≡ (Ok (tree.evaluate (first_at i) x, suc h), a)
unfolding evaluated
evaluated_reads {i = i} {a = a} {t = t} {x = x} {h = h} d c e r n l w =
    bind (evaluation_reads d c n l (ap closes e) r w) _ (bind (expect_reads mark.Semicolon site.Elsewhere t a e) _ (ap (λ at. the_statement at x h a) (resumed_start r)))

evaluations_line : {closing : Terminal} {i j a : Lexemes} {b : Begin} {es : PlainExprs} {h : ℕ} → Evaluations closing i a es h → closes closing ≡ true → is_mark mark.Comma closing ≡ false → Resumes i b j → (n : ℕ) → h ≤ n → (w : Site)
    → Line (statement_expression n b w) (statement_expression n fresh site.Elsewhere) closing i j a (list_of es) h
evaluations_line {j = j} (g.last_evaluation {t = t} {i = i} {a = a} {x = x} {h = h} d c e) q k r n l w =
    line_last (statement_expression n fresh site.Elsewhere) i j (evaluation_reads d c n l (ap closes e ∙ q) r w) (omega (arith, expression_takes d)) e k
evaluations_line {j = j} (g.more_evaluations {t = t} {i = i} {m = m} {a = a} {x = x} {es = es} {g = f} {h = h} d c e ds) q k r n l w =
    line_more i j (evaluation_reads d c n (omega arith) (ap closes e) r w) (omega (arith, expression_takes d)) e (evaluations_line ds q k at_start n (omega arith) site.Elsewhere)

pub evaluations_read : (closing : Mark) {i j a : Lexemes} {b : Begin} {es : PlainExprs} {h : ℕ} → Evaluations (terminal_of_mark closing) i a es h → closes (terminal_of_mark closing) ≡ true → is_mark mark.Comma (terminal_of_mark closing) ≡ false → Resumes i b j
    → (n : ℕ) → h ≤ n → (w : Site) → evaluations n b w closing j ≡ (Ok (list_of es, h), a)
unfolding evaluations
evaluations_read closing {i = i} {j = j} {a = a} {b = b} {es = es} {h = h} d q k r n l w =
    let f : Line (statement_expression n b w) (statement_expression n fresh site.Elsewhere) (terminal_of_mark closing) i j a (list_of es) h = evaluations_line d q k r n l w in
    bind (line_reads f) _ (bind (expect_reads closing site.Elsewhere f.last a f.closes) _ refl)
