-- Each expression that the grammar derives is read
use Rattle.std.proofs.Common.{◌≡◌, refl, ap, ◌∙◌, subst, ℕ, zero, suc, Bool, ◌<◌, ◌≤◌, max, true, false, List, ◌∷◌, Some, None, Ok, arith}
use Rattle.bcj_parser_trees.specs.declared.expression.BinOp.{BinOp}
use Rattle.bcj_parser_trees.specs.Trees as tree
use Rattle.bcj_parser_trees.specs.Trees.{PlainExpr, PlainExprs, exprs_from}
use Rattle.bcj_parser_rules.specs.declared.kind.Mark.TheVariants as mark
use Rattle.bcj_parser_rules.specs.declared.kind.Beginning.TheVariants as begin
use Rattle.bcj_parser_rules.specs.declared.kind.Joining.TheVariants as join
use Rattle.bcj_parser_rules.specs.declared.terminal.Terminal.{Terminal}
use Rattle.bcj_parser_rules.specs.declared.terminal.Terminal.TheVariants as terminal
use Rattle.bcj_parser_rules.specs.declared.stop.Site.TheVariants as site
use Rattle.bcj_parser_rules.specs.Lexemes.{Lexeme, Lexemes}
use Rattle.bcj_parser_rules.specs.Grammar as g
use Rattle.bcj_parser_rules.specs.Lexemes.{first_at}
use Rattle.bcj_parser_rules.specs.Levels.{operator_level}
use Rattle.bcj_parser_rules.specs.Grammar.{Derives, Arguments, MoreArguments}
use Rattle.bcj_parser_rules.specs.Lexemes.{terminal_at}
use Rattle.bcj_parser_rules.specs.function.Kinds.{beginning, joining}
use Rattle.bcj_parser_rules.specs.function.Steps.{Outcome, sees}
use Rattle.bcj_parser_rules.specs.function.Expressions.{fresh, Read, Inner, binds, is_primary, operand, arguments, dotted, chosen, expression, needs_selector}
use Rattle.bcj_parser_completeness.proofs.Terminals.{true_false}
use Rattle.bcj_parser_completeness.proofs.Steps.{bind, taking, passing, expect_reads, named_reads}
use Rattle.bcj_parser_completeness.proofs.Lists.{Line, line_last, line_more, line_reads}
use Rattle.bcj_parser_completeness.proofs.Follows.{closes, tight, tight_up, tight_level, level_tight, level_passes, Stops, closed_off, joined_on, bracket_binds, passed, tighter, step_joins, step_on, not_begun, unopened}
use Rattle.bcj_parser_completeness.proofs.Climbing.{operand_as, Reaches, from_operand, go_on, at_room, Selects, from_selected, select_on}
use Rattle.bcj_parser_completeness.proofs.Types.{type_reads}
use Rattle.bcj_parser_completeness.proofs.Operands.{no_arguments_read, some_arguments_read, name_reads, call_reads, super_field_reads, super_call_reads, object_reads, array_reads, signed_reads, stepped_reads, int_cast_reads, boolean_cast_reads, class_cast_reads}
use Rattle.bcj_parser_completeness.proofs.Parens.{paren_reads}
use Rattle.bcj_parser_completeness.proofs.Lengths.{expression_takes}
use Rattle.bcj_parser_completeness.proofs.Shapes.{tall, expression_begins, primary, operable, indexable, list_of, listed_back, arguments_open, arguments_begin}

dotted_field : (inner : Inner) (at : ℕ) (l : Read) (x : List ℕ) (a : Lexemes) → sees mark.LeftParen a ≡ false → dotted inner at l x a ≡ (Ok (tree.dot at l.0 x, suc l.1), a)
unfolding dotted
dotted_field inner at l x a e = passing e _ refl

dotted_call : (inner : Inner) (at : ℕ) (l : Read) (x : List ℕ) (m a : Lexemes) (es : PlainExprs) (h : ℕ) → sees mark.LeftParen m ≡ true → arguments inner m ≡ (Ok (es, h), a) → dotted inner at l x m ≡ (Ok (tree.dot_call at l.0 x es, suc (max l.1 h)), a)
unfolding dotted
dotted_call inner at l x m a es h e r = taking e _ (bind r _ refl)

chosen_reads : (inner : Inner) (at : ℕ) (c : Read) (u : Lexeme) (m k a : Lexemes) (x y : PlainExpr) (g h : ℕ) → inner fresh 1 m ≡ (Ok (x, g), u ∷ k) → u.terminal ≡ terminal.Colon → inner fresh 2 k ≡ (Ok (y, h), a)
    → chosen inner at c m ≡ (Ok (tree.conditional at c.0 x y, suc (max c.1 (max g h))), a)
unfolding chosen
chosen_reads inner at c u m k a x y g h e f r = bind e _ (bind (expect_reads mark.Colon site.Elsewhere u k f) _ (bind r _ refl))

level_bound : (o : BinOp) {b : ℕ} → b < tight (operator_level o) → b < suc (operator_level o)
level_bound o {b = b} l = subst (λ n. b < n) (tight_level o) l

abbrev the_arguments : PlainExprs → ℕ → Lexemes → Outcome (PlainExprs × ℕ)
the_arguments es h a = (Ok (es, h), a)

mutual
  -- whatever stands behind that can
  pub reach : {k h : ℕ} {i a : Lexemes} {x : PlainExpr} → Derives k i a x h → (n least : ℕ) → 1 ≤ least → least ≤ k → h ≤ suc n → Stops k x a → Reaches n least i a x h
  reach (g.looser {k = k} {a = a} {x = x} d) n least p q l w = reach d n least p (omega arith) l (tighter k x a w)
  reach (g.assign {t = t} {i = i} {m = m} {a = a} {l = x} {r = r} {g = f} {h = h} d c e k) n least p q l w =
      go_on (join.Assign None) (reach d n least p (omega arith) (omega arith) (joined_on 14 x t m e (omega arith) refl refl (λ _. refl))) (ap joining e) q c (omega arith) (omega arith)
      (bind (at_room n 1 (tall k) (omega arith) (λ j z. reach k j 1 (omega arith) (omega arith) z (passed 1 1 _ r a w (omega arith) (omega arith))) w.low) _ refl)
  reach (g.compound {o = o} {t = t} {i = i} {m = m} {a = a} {l = x} {r = r} {g = f} {h = h} d c e k) n least p q l w =
      go_on (join.Assign (Some o)) (reach d n least p (omega arith) (omega arith) (joined_on 14 x t m e (omega arith) refl refl (λ _. refl))) (ap joining e) q c (omega arith) (omega arith)
      (bind (at_room n 1 (tall k) (omega arith) (λ j z. reach k j 1 (omega arith) (omega arith) z (passed 1 1 _ r a w (omega arith) (omega arith))) w.low) _ refl)
  reach (g.conditional {t = t} {u = u} {i = i} {m = m} {n = v} {a = a} {c = c} {l = x} {r = y} {f = e} {g = f} {h = h} d b dx k dy) n least p q l w =
      go_on join.Question (reach d n least p (omega arith) (omega arith) (joined_on 3 c t m b (omega arith) refl refl (λ _. refl))) (ap joining b) q refl (omega arith) (omega arith)
      (chosen_reads (expression n) (first_at i) (c, e) u m v a x y f h
      (at_room n 1 (tall dx) (omega arith) (λ j z. reach dx j 1 (omega arith) (omega arith) z (closed_off x u v k refl)) (closed_off x u v k refl).low) k
      (at_room n 2 (tall dy) (omega arith) (λ j z. reach dy j 2 (omega arith) (omega arith) z (passed 2 2 _ y a w (omega arith) (omega arith))) w.low))
  reach (g.binary {o = o} {t = t} {i = i} {m = m} {a = a} {l = x} {r = r} {g = f} {h = h} d e k) n least p q l w =
      go_on (join.Binary o) (reach d n least p q (omega arith) (joined_on (operator_level o) x t m e (level_tight o) refl refl (λ _. refl))) (ap joining e) q (operable o d) (omega arith) (omega arith)
      (bind (at_room n (suc (operator_level o)) (tall k) (omega arith) (λ j z. reach k j (suc (operator_level o)) (omega arith) (omega arith) z (passed (operator_level o) (suc (operator_level o)) _ r a w (level_passes o) (tight_up (operator_level o)))) (level_bound o w.low)) _ refl)
  reach (g.instance_of {t = t} {i = i} {m = m} {a = a} {l = x} {ty = ty} {g = f} d e k) n least p q l w =
      go_on join.InstanceOf (reach d n least p q (omega arith) (joined_on 9 x t m e (omega arith) refl refl (λ _. refl))) (ap joining e) q refl (omega arith) (omega arith)
      (bind (type_reads k n site.Elsewhere (omega arith) (bracket_binds (terminal_at a) (let b : binds (joining (terminal_at a)) < 10 = w.low in omega arith))) _ refl)
  reach (g.signed {o = o} {t = t} {m = m} {a = a} {x = x} {h = h} e d) n least p q l w =
      from_operand n least (t ∷ m) a (tree.unary t.at o x) (suc h) (signed_reads n (expression n) least t.at o t m a x h (omega (arith, tall d)) q e
      (at_room n 13 (tall d) (omega arith) (λ j z. reach d j 13 (omega arith) (omega arith) z (passed 13 13 _ x a w (omega arith) (omega arith))) w.low))
  reach (g.step_before {plus = plus} {t = t} {m = m} {a = a} {x = x} {h = h} e d c) n least p q l w =
      from_operand n least (t ∷ m) a (tree.step t.at plus false x) (suc h) (stepped_reads n (expression n) least t.at plus t m a x h (omega (arith, tall d)) q e
      (at_room n 14 (tall d) (omega arith) (λ j z. reach d j 14 (omega arith) (omega arith) z (passed 13 14 _ x a w (omega arith) (omega arith))) (let b : binds (joining (terminal_at a)) < 13 = w.low in omega arith)) c)
  reach (g.step_behind {plus = plus} {t = t} {i = i} {a = a} {x = x} {h = h} d c e) n least p q l w =
      go_on (join.Step plus) (reach d n least p (omega arith) (omega arith) (step_on x t a plus e)) (step_joins t.terminal plus e) q c (omega arith) (omega arith) refl
  reach (g.cast_to_int {t = t} {u = u} {v = v} {m = m} {n = k} {a = a} {d = d} {x = x} {h = h} e f b r dx) n least p q l w =
      from_operand n least (t ∷ u ∷ m) a _ (suc (max d h)) (int_cast_reads n (expression n) least t.at t u v m k a d x h (omega (arith, tall dx)) q e f b (omega arith) r
      (at_room n 13 (tall dx) (omega arith) (λ j z. reach dx j 13 (omega arith) (omega arith) z (passed 13 13 _ x a w (omega arith) (omega arith))) w.low))
  reach (g.cast_to_boolean {t = t} {u = u} {v = v} {m = m} {n = k} {a = a} {d = d} {x = x} {h = h} e f b r dx) n least p q l w =
      from_operand n least (t ∷ u ∷ m) a _ (suc (max d h)) (boolean_cast_reads n (expression n) least t.at t u v m k a d x h (omega (arith, tall dx)) q e f b (omega arith) r
      (at_room n 13 (tall dx) (omega arith) (λ j z. reach dx j 13 (omega arith) (omega arith) z (passed 13 13 _ x a w (omega arith) (omega arith))) w.low))
  reach (g.cast_to_class {t = t} {u = u} {v = v} {m = m} {n = k} {a = a} {d = d} {x = x} {h = h} e f b r o dx) n least p q l w =
      from_operand n least (t ∷ u ∷ m) a _ (suc (max d h)) (class_cast_reads n (expression n) least t.at t u v m k a d x h (omega (arith, tall dx)) q e f b (omega arith) r o
      (at_room n 13 (tall dx) (omega arith) (λ j z. reach dx j 13 (omega arith) (omega arith) z (passed 13 13 _ x a w (omega arith) (omega arith))) w.low))
  reach (g.int_literal {t = t} {a = a} e) n least p q l w = from_operand n least (t ∷ a) a _ 1 (operand_as n (expression n) least t.at t a begin.Int (ap beginning e) refl)
  reach (g.true_literal {t = t} {a = a} e) n least p q l w = from_operand n least (t ∷ a) a _ 1 (operand_as n (expression n) least t.at t a (begin.Bool true) (ap beginning e) refl)
  reach (g.false_literal {t = t} {a = a} e) n least p q l w = from_operand n least (t ∷ a) a _ 1 (operand_as n (expression n) least t.at t a (begin.Bool false) (ap beginning e) refl)
  reach (g.null_literal {t = t} {a = a} e) n least p q l w = from_operand n least (t ∷ a) a _ 1 (operand_as n (expression n) least t.at t a begin.Null (ap beginning e) refl)
  reach (g.this_value {t = t} {a = a} e) n least p q l w = from_operand n least (t ∷ a) a _ 1 (operand_as n (expression n) least t.at t a begin.This (ap beginning e) refl)
  reach (g.paren {t = t} {u = u} {m = m} {a = a} {x = x} {h = h} e d k) n least p q l w =
      from_operand n least (t ∷ m) a (tree.paren t.at x) (suc h) (paren_reads n least t.at t m a u x h (tall d) (omega arith) e (expression_begins d)
      (at_room n 1 (tall d) (omega arith) (λ j z. reach d j 1 (omega arith) (omega arith) z (closed_off x u a k refl)) (closed_off x u a k refl).low) k w.unsigned)
  reach (g.new_object {t = t} {u = u} {m = m} {a = a} {es = es} {h = h} e f args) n least p q l w =
      from_operand n least (t ∷ u ∷ m) a (tree.new_object t.at u.word es) (suc h) (operand_as n (expression n) least t.at t (u ∷ m) begin.New (ap beginning e)
      (object_reads n (expression n) t.at u m a es h f (arguments_open args) (arguments_read args n (omega arith)) w.unbraced))
  reach (g.new_array {t = t} {u = u} {v = v} {w = z} {m = m} {n = k} {a = a} {b = b} {x = x} {d = d} {h = h} e c f dx o br) n least p q l w =
      from_operand n least (t ∷ u ∷ v ∷ m) a _ (suc (max h (suc d))) (operand_as n (expression n) least t.at t (u ∷ v ∷ m) begin.New (ap beginning e)
      (array_reads n (expression n) t.at b u v z m k a x d h c f (not_begun (terminal_at m) (expression_begins dx) mark.RightBracket refl)
      (at_room n 1 (tall dx) (omega arith) (λ j y. reach dx j 1 (omega arith) (omega arith) y (closed_off x z k o refl)) (closed_off x z k o refl).low) o br (w.unindexed refl) (omega arith)))
  reach (g.name {t = t} {a = a} e) n least p q l w =
      from_operand n least (t ∷ a) a _ 1 (operand_as n (expression n) least t.at t a begin.Name (ap beginning e) (name_reads (expression n) t.at t.word a (unopened a w.unsigned)))
  reach (g.call {t = t} {m = m} {a = a} {es = es} {h = h} e args) n least p q l w =
      from_operand n least (t ∷ m) a _ (suc h) (operand_as n (expression n) least t.at t m begin.Name (ap beginning e)
      (call_reads (expression n) t.at t.word m a es h (arguments_open args) (arguments_read args n (omega arith))))
  reach (g.super_field {t = t} {u = u} {v = v} {a = a} e f k) n least p q l w =
      from_operand n least (t ∷ u ∷ v ∷ a) a _ 1 (operand_as n (expression n) least t.at t (u ∷ v ∷ a) begin.Super (ap beginning e) (super_field_reads (expression n) t.at u v a f k (unopened a w.unsigned)))
  reach (g.super_call {t = t} {u = u} {v = v} {m = m} {a = a} {es = es} {h = h} e f k args) n least p q l w =
      from_operand n least (t ∷ u ∷ v ∷ m) a _ (suc h) (operand_as n (expression n) least t.at t (u ∷ v ∷ m) begin.Super (ap beginning e)
      (super_call_reads (expression n) t.at u v m a es h f k (arguments_open args) (arguments_read args n (omega arith))))
  reach (g.dot {t = t} {u = u} {i = i} {a = a} {x = x} {h = h} d e k) n least p q l w =
      go_on join.Dot (reach d n least p q (omega arith) (joined_on 14 x t (u ∷ a) e (omega arith) refl refl (λ _. refl))) (ap joining e) q (primary d (omega arith)) (omega arith) (omega arith)
      (bind (named_reads site.Elsewhere u a k) _ (dotted_field (expression n) (first_at i) (x, h) u.word a (unopened a w.unsigned)))
  reach (g.dot_call {t = t} {u = u} {i = i} {m = m} {a = a} {x = x} {es = es} {g = f} {h = h} d e k args) n least p q l w =
      go_on join.Dot (reach d n least p q (omega arith) (joined_on 14 x t (u ∷ m) e (omega arith) refl refl (λ _. refl))) (ap joining e) q (primary d (omega arith)) (omega arith) (omega arith)
      (bind (named_reads site.Elsewhere u m k) _ (dotted_call (expression n) (first_at i) (x, f) u.word m a es h (arguments_open args) (arguments_read args n (omega arith))))
  reach (g.element {t = t} {u = u} {i = i} {m = m} {a = a} {x = x} {y = y} {g = f} {h = h} d c e dy k) n least p q l w =
      go_on join.Bracket (reach d n least p q (omega arith) (joined_on 14 x t m e (omega arith) refl refl (λ z. absurd (true_false z c)))) (ap joining e) q (indexable x (primary d (omega arith)) c) (omega arith) (omega arith)
      (bind (at_room n 1 (tall dy) (omega arith) (λ j z. reach dy j 1 (omega arith) (omega arith) z (closed_off y u a k refl)) (closed_off y u a k refl).low) _ (bind (expect_reads mark.RightBracket site.Elsewhere u a k) _ refl))

  pub arguments_read : {i a : Lexemes} {es : PlainExprs} {h : ℕ} → Arguments i a es h → (n : ℕ) → h ≤ n → arguments (expression n) i ≡ (Ok (es, h), a)
  arguments_read (g.no_arguments {t = t} {u = u} {a = a} e k) n l = no_arguments_read (expression n) t u a e k
  arguments_read (g.some_arguments {t = t} {m = m} {a = a} {es = es} {h = h} e args) n l =
      let r : Line (expression n fresh 1) (expression n fresh 1) terminal.RightParen m m a (list_of es) h = more_read args n l in
      some_arguments_read (expression n) t r.last m a (list_of es) h e (not_begun (terminal_at m) (arguments_begin args) mark.RightParen refl) (line_reads r) r.closes ∙ ap (λ es. the_arguments es h a) (listed_back es)

  more_read : {i a : Lexemes} {es : PlainExprs} {h : ℕ} → MoreArguments i a es h → (n : ℕ) → h ≤ n → Line (expression n fresh 1) (expression n fresh 1) terminal.RightParen i i a (list_of es) h
  more_read (g.last_argument {t = t} {i = i} {a = a} {x = x} {h = h} d e) n l =
      line_last (expression n fresh 1) i i (at_room n 1 (tall d) l (λ j z. reach d j 1 (omega arith) (omega arith) z (closed_off x t a e refl)) (closed_off x t a e refl).low) (omega (arith, expression_takes d)) e refl
  more_read (g.more_arguments {t = t} {i = i} {m = m} {a = a} {x = x} {es = es} {g = f} {h = h} d e args) n l =
      line_more i i (at_room n 1 (tall d) (omega arith) (λ j z. reach d j 1 (omega arith) (omega arith) z (closed_off x t m e refl)) (closed_off x t m e refl).low) (omega (arith, expression_takes d)) e (more_read args n (omega arith))

-- ---- primaries that begin statements

-- what is one token or stands in parentheses
abbrev pub is_bare : PlainExpr → Bool
is_bare (tree.int_literal at v d) = true
is_bare (tree.bool_literal at v) = true
is_bare (tree.null_literal at) = true
is_bare (tree.this_value at) = true
is_bare (tree.paren at x) = true
is_bare _ = false

needless : {k : Terminal} {j : Terminal} → needs_selector (beginning k) ≡ true → k ≡ j → needs_selector (beginning j) ≡ false → ⊥
needless s e f = true_false s (ap (λ k. needs_selector (beginning k)) e ∙ f)

one_token : (n : ℕ) (i a : Lexemes) (x : PlainExpr) → 1 ≤ n → ((m : ℕ) → operand m (expression m) 14 (first_at i) i ≡ (Ok (x, 1), a)) → Selects n i a x 1
one_token zero i a x l f = absurd (omega arith)
one_token (suc n) i a x l f = from_selected n i a x 1 (f n)

pub select : {k h : ℕ} {i a : Lexemes} {x : PlainExpr} → Derives k i a x h → is_primary x ≡ true → 14 ≤ k → needs_selector (beginning (terminal_at i)) ≡ true → (n : ℕ) → h ≤ suc n → (is_bare x ≡ true → h ≤ n) → Stops 14 x a → Selects n i a x h
select (g.looser d) p q z n l f w = select d p (omega arith) z n l f w
select (g.int_literal {t = t} {a = a} e) p q z n l f w = one_token n (t ∷ a) a _ (f refl) (λ m. operand_as m (expression m) 14 t.at t a begin.Int (ap beginning e) refl)
select (g.true_literal {t = t} {a = a} e) p q z n l f w = one_token n (t ∷ a) a _ (f refl) (λ m. operand_as m (expression m) 14 t.at t a (begin.Bool true) (ap beginning e) refl)
select (g.false_literal {t = t} {a = a} e) p q z n l f w = one_token n (t ∷ a) a _ (f refl) (λ m. operand_as m (expression m) 14 t.at t a (begin.Bool false) (ap beginning e) refl)
select (g.null_literal {t = t} {a = a} e) p q z n l f w = one_token n (t ∷ a) a _ (f refl) (λ m. operand_as m (expression m) 14 t.at t a begin.Null (ap beginning e) refl)
select (g.this_value {t = t} {a = a} e) p q z n l f w = one_token n (t ∷ a) a _ (f refl) (λ m. operand_as m (expression m) 14 t.at t a begin.This (ap beginning e) refl)
select (g.paren e d k) p q z zero l f w = absurd (omega (arith, f refl))
select (g.paren {t = t} {u = u} {m = m} {a = a} {x = x} {h = h} e d k) p q z (suc n) l f w =
    from_selected n (t ∷ m) a (tree.paren t.at x) (suc h) (paren_reads n 14 t.at t m a u x h (tall d) (omega (arith, f refl)) e (expression_begins d)
    (at_room n 1 (tall d) (omega (arith, f refl)) (λ j y. reach d j 1 (omega arith) (omega arith) y (closed_off x u a k refl)) (closed_off x u a k refl).low) k w.unsigned)
select (g.dot {t = t} {u = u} {i = i} {a = a} {x = x} {h = h} d e k) p q z n l f w =
    select_on join.Dot (select d (primary d (omega arith)) (omega arith) z n (omega arith) (λ b. omega arith) (joined_on 14 x t (u ∷ a) e (omega arith) refl refl (λ _. refl))) (ap joining e) (omega arith) (primary d (omega arith)) (omega arith) (omega arith)
    (bind (named_reads site.Elsewhere u a k) _ (dotted_field (expression n) (first_at i) (x, h) u.word a (unopened a w.unsigned)))
select (g.dot_call {t = t} {u = u} {i = i} {m = m} {a = a} {x = x} {es = es} {g = v} {h = h} d e k args) p q z n l f w =
    select_on join.Dot (select d (primary d (omega arith)) (omega arith) z n (omega arith) (λ b. omega arith) (joined_on 14 x t (u ∷ m) e (omega arith) refl refl (λ _. refl))) (ap joining e) (omega arith) (primary d (omega arith)) (omega arith) (omega arith)
    (bind (named_reads site.Elsewhere u m k) _ (dotted_call (expression n) (first_at i) (x, v) u.word m a es h (arguments_open args) (arguments_read args n (omega arith))))
select (g.element {t = t} {u = u} {i = i} {m = m} {a = a} {x = x} {y = y} {g = v} {h = h} d c e dy k) p q z n l f w =
    select_on join.Bracket (select d (primary d (omega arith)) (omega arith) z n (omega arith) (λ b. omega arith) (joined_on 14 x t m e (omega arith) refl refl (λ b. absurd (true_false b c)))) (ap joining e) (omega arith) (indexable x (primary d (omega arith)) c) (omega arith) (omega arith)
    (bind (at_room n 1 (tall dy) (omega arith) (λ j b. reach dy j 1 (omega arith) (omega arith) b (closed_off y u a k refl)) (closed_off y u a k refl).low) _ (bind (expect_reads mark.RightBracket site.Elsewhere u a k) _ refl))
select (g.new_object e o args) p q z n l f w = absurd (needless z e refl)
select (g.new_array e c o dx b br) p q z n l f w = absurd (needless z e refl)
select (g.name e) p q z n l f w = absurd (needless z e refl)
select (g.call e args) p q z n l f w = absurd (needless z e refl)
select (g.super_field e o k) p q z n l f w = absurd (needless z e refl)
select (g.super_call e o k args) p q z n l f w = absurd (needless z e refl)
select _ p q z n l f w = absurd (cc)

-- an expression up to what closes it
pub value_reads : {i a : Lexemes} {t : Lexeme} {x : PlainExpr} {h : ℕ} → Derives 1 i (t ∷ a) x h → (n : ℕ) → h ≤ n → closes t.terminal ≡ true → expression n fresh 1 i ≡ (Ok (x, h), t ∷ a)
value_reads {a = a} {t = t} {x = x} d n l c = let w : Stops 1 x (t ∷ a) = closed_off x t a refl c in at_room n 1 (tall d) l (λ j z. reach d j 1 (omega arith) (omega arith) z w) w.low
