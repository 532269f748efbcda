-- The function decides the rules of statements.
use Rattle.std.proofs.Common.{◌≡◌, refl, sym, ap, ◌∙◌, ℕ, Bool, true, false, List, ◌∷◌, Option, Some, None, is_some}
use Rattle.std.specs.Bool.{Decides}
use Rattle.std.specs.List.{list_all}
use Rattle.std.proofs.lemmas.Bool.{and_parts, and_from}
use Rattle.std.proofs.lemmas.Bool.Decides.{Decides-and, Decides-not, Decides-like}
use Rattle.bcj_symbolic_trees.specs.Types.{PlainTy, bool_type, void_type, class_type, PlainArg, given}
use Rattle.bcj_symbolic_trees.specs.Units.{PlainPair}
use Rattle.bcj_symbolic_trees.specs.Trees as tree
use Rattle.bcj_symbolic_trees.specs.Trees.{PlainExpr, PlainExprs, PlainOption, PlainStmt, PlainStmts, PlainCatches}
use Rattle.bcj_names.specs.Identifiers.{is_identifier}
use Rattle.bcj_symbolic_check.specs.Steps.{is_void, throwable_type}
use Rattle.bcj_symbolic_check.specs.Judgements.{Frame, Known, a_type, bool_part, part_steps, is_thrown}
use Rattle.bcj_symbolic_check.specs.Statements.{are_none, returns_nothing, returns_value, loop_holds, catch_holds, catches_hold, stmt_holds, expr_marks, exprs_marks, stmt_marks, stmts_marks, catches_marks}
use Rattle.bcj_symbolic_check.specs.Typing as typing
use Rattle.bcj_symbolic_check.specs.Typing.{IsValue, IsListed, listed_first, listed_behind, Step, reference, class_reference, At, IsThis, HasType, EachHasType, none_typed, more_typed, HasRule, HaveRules, CatchesHaveRules}
use Rattle.bcj_symbolic_soundness.specs.Laws.{EachHolds, StatementsDecided, BodiesDecided}
use Rattle.bcj_symbolic_soundness.proofs.Tests.{is_void-Decides, is_value-Decides, is_this-Decides}
use Rattle.bcj_symbolic_soundness.proofs.Operators.{bool_part-Decides}
use Rattle.bcj_symbolic_soundness.proofs.Operations.{Decides-if}
use Rattle.bcj_symbolic_soundness.proofs.Parts.{both_hold, three_hold, each_of_both, each_of_three, retyped, part_steps-Decides}
use Rattle.bcj_symbolic_soundness.proofs.Variables.{local_at, local_there}
use Rattle.bcj_symbolic_soundness.proofs.Calls.{EachTyped}
use Rattle.bcj_symbolic_soundness.proofs.Expressions.{expr_typed, exprs_typed, expr_passes}

-- ---- lists of expressions

each_has_type : (frame : Frame) (es : PlainExprs) → EachTyped frame es → EachHasType frame es
each_has_type frame tree.no_exprs x = none_typed
each_has_type frame (tree.more_exprs e rest) x = more_typed x.0.1.has (each_has_type frame rest x.1)

each_passes : {frame : Frame} {es : PlainExprs} → EachHasType frame es → EachHolds (exprs_marks frame es)
each_passes none_typed = refl
each_passes {frame} (more_typed {e = e} {es = es} x y) = both_hold (expr_marks frame e) (exprs_marks frame es) (expr_passes x).marks (each_passes y)

are_none-Decides : (es : PlainExprs) → Decides (are_none es) (es ≡ tree.no_exprs)
are_none-Decides tree.no_exprs = (λ e. refl, λ e. refl)
are_none-Decides (tree.more_exprs e rest) = (λ e. cc, λ e. cc)

-- ---- what is thrown

is_thrown-Decides : (pairs : List PlainPair) (s : PlainArg) → Decides (is_thrown pairs (Some s)) (Step pairs s (given throwable_type))
unfolding is_thrown
is_thrown-Decides pairs s = part_steps-Decides pairs (given throwable_type) s

-- ---- conditions

loop-Decides : (test_last : Bool) (s : PlainArg) (update : PlainExprs)
    → Decides (loop_holds test_last (Some s) (are_none update)) ((s ≡ given bool_type) × (test_last ≡ true → update ≡ tree.no_exprs))
unfolding loop_holds
loop-Decides test_last s update =
    Decides-and _ _ (bool_part-Decides s) (Decides-if test_last _ (λ e. e, λ e. e) (are_none-Decides update))

returns_nothing-Decides : (result : Option PlainTy) → Decides (returns_nothing result) (result ≡ Some void_type)
unfolding returns_nothing
returns_nothing-Decides None = (λ e. cc, λ e. cc)
returns_nothing-Decides (Some t) = Decides-like (is_void t) (ap Some) (λ e. cc) (is_void-Decides t)

returned : (pairs : List PlainPair) (result : Option PlainTy) (s : PlainArg) → returns_value pairs result (Some s) ≡ true
    → (t : PlainTy) × (result ≡ Some t) × IsValue (given t) × Step pairs s (given t)
unfolding returns_value
returned pairs None s h = cc
returned pairs (Some t) s h =
    let p = and_parts _ _ h in (t, refl, (is_value-Decides (given t)).0 p.0, (part_steps-Decides pairs (given t) s).0 p.1)

returns_so : (pairs : List PlainPair) (t : PlainTy) (s : PlainArg) → IsValue (given t) → Step pairs s (given t) → returns_value pairs (Some t) (Some s) ≡ true
unfolding returns_value
returns_so pairs t s n k =
    and_from _ _ ((is_value-Decides (given t)).1 n) ((part_steps-Decides pairs (given t) s).1 k)

-- the local takes what is caught
record Caught (frame : Frame) (class : List ℕ) (i : ℕ) : Type 0 where
  named : is_identifier class ≡ true
  thrown : Step frame.pairs (given (class_type class)) (given throwable_type)
  type : PlainTy
  local : At frame.locals i type
  other : ¬ IsThis frame i
  steps : Step frame.pairs (given (class_type class)) (given type)

caught : (frame : Frame) (class : List ℕ) (i : ℕ) → catch_holds frame class i ≡ true → Caught frame class i
unfolding catch_holds
caught frame class i h =
    let p = and_parts _ _ h in
    let q = and_parts _ _ p.1 in
    let r = and_parts _ _ q.1 in
    let u = and_parts _ _ r.1 in
    let l = local_at frame i u.0 in
    record {
      named = p.0;
      thrown = (is_thrown-Decides frame.pairs (given (class_type class))).0 q.0;
      type = l.0;
      local = l.1;
      other = (Decides-not _ (is_this-Decides frame i)).0 r.0;
      steps = (part_steps-Decides frame.pairs (given l.0) (given (class_type class))).0 (sym (ap (λ (k : Known). part_steps frame.pairs (a_type (class_type class)) k) l.2) ∙ u.1);
    }

catches : {frame : Frame} {class : List ℕ} {i : ℕ} → Caught frame class i → catch_holds frame class i ≡ true
unfolding catch_holds
catches {frame} {class} {i} c =
    let l = local_there frame c.local in
    and_from _ _ c.named
    (and_from _ _ ((is_thrown-Decides frame.pairs (given (class_type class))).1 c.thrown)
    (and_from _ _ ((Decides-not _ (is_this-Decides frame i)).1 c.other)
    (and_from _ _ (ap (λ (k : Known). is_some k) l)
    (ap (λ (k : Known). part_steps frame.pairs (a_type (class_type class)) k) l ∙ (part_steps-Decides frame.pairs (given c.type) (given (class_type class))).1 c.steps))))

-- ---- what the function accepts has a rule

-- a node and its parts
parts : (frame : Frame) (looped : Bool) (s : PlainStmt) {m : List Bool} → stmt_marks frame looped s ≡ stmt_holds frame looped s ∷ m → EachHolds (stmt_marks frame looped s)
    → (stmt_holds frame looped s ≡ true) × EachHolds m
parts frame looped s {m} is h =
    and_parts (stmt_holds frame looped s) (list_all (λ holds. holds) m) (sym (ap (list_all (λ holds. holds)) is) ∙ h)

mutual
  pub stmt_ruled : (frame : Frame) (looped : Bool) (s : PlainStmt) → EachHolds (stmt_marks frame looped s) → HasRule frame looped s
  stmt_ruled frame looped (tree.evaluate e) h =
      let x = expr_typed frame e (parts frame looped (tree.evaluate e) refl h).1 in typing.evaluate x.1.has
  stmt_ruled frame looped (tree.if_else c a b) h =
      let p = parts frame looped (tree.if_else c a b) refl h in
      let q = each_of_three (expr_marks frame c) (stmt_marks frame looped a) (stmt_marks frame looped b) p.1 in
      let x = expr_typed frame c q.0 in
      let y = retyped ((bool_part-Decides x.0).0 (sym (ap bool_part x.1.known) ∙ p.0)) x.1 in
      typing.if_else y.has (stmt_ruled frame looped a q.1) (stmt_ruled frame looped b q.2)
  stmt_ruled frame looped (tree.loop test_last c body update) h =
      let p = parts frame looped (tree.loop test_last c body update) refl h in
      let q = each_of_three (expr_marks frame c) (stmt_marks frame true body) (exprs_marks frame update) p.1 in
      let x = expr_typed frame c q.0 in
      let y = (loop-Decides test_last x.0 update).0 (sym (ap (λ (k : Known). loop_holds test_last k (are_none update)) x.1.known) ∙ p.0) in
      typing.loop (retyped y.0 x.1).has (stmt_ruled frame true body q.1) y.1 (each_has_type frame update (exprs_typed frame update q.2))
  stmt_ruled frame true tree.break_loop h = typing.break_loop
  stmt_ruled frame false tree.break_loop h = cc
  stmt_ruled frame true tree.continue_loop h = typing.continue_loop
  stmt_ruled frame false tree.continue_loop h = cc
  stmt_ruled frame looped (tree.return_with tree.absent) h =
      typing.return_nothing ((returns_nothing-Decides frame.result).0 (parts frame looped (tree.return_with tree.absent) refl h).0)
  stmt_ruled frame looped (tree.return_with (tree.present e)) h =
      let p = parts frame looped (tree.return_with (tree.present e)) refl h in
      let x = expr_typed frame e p.1 in
      let y = returned frame.pairs frame.result x.0 (sym (ap (returns_value frame.pairs frame.result) x.1.known) ∙ p.0) in
      typing.return_value y.1 y.2 x.1.has y.3
  stmt_ruled frame looped (tree.throw e) h =
      let p = parts frame looped (tree.throw e) refl h in
      let x = expr_typed frame e p.1 in
      typing.throw x.1.has ((is_thrown-Decides frame.pairs x.0).0 (sym (ap (is_thrown frame.pairs) x.1.known) ∙ p.0))
  stmt_ruled frame looped (tree.try_catch body handlers) h =
      let p = parts frame looped (tree.try_catch body handlers) refl h in
      let q = each_of_both (stmts_marks frame looped body) (catches_marks frame looped handlers) p.1 in
      typing.try_catch (stmts_ruled frame looped body q.0) (catches_ruled frame looped handlers p.0 q.1)
  stmt_ruled frame looped (tree.block body) h =
      typing.block (stmts_ruled frame looped body (parts frame looped (tree.block body) refl h).1)

  pub stmts_ruled : (frame : Frame) (looped : Bool) (body : PlainStmts) → EachHolds (stmts_marks frame looped body) → HaveRules frame looped body
  stmts_ruled frame looped tree.no_stmts h = typing.no_stmts
  stmts_ruled frame looped (tree.more_stmts s rest) h =
      let q = each_of_both (stmt_marks frame looped s) (stmts_marks frame looped rest) h in
      typing.more_stmts (stmt_ruled frame looped s q.0) (stmts_ruled frame looped rest q.1)

  catches_ruled : (frame : Frame) (looped : Bool) (handlers : PlainCatches) → catches_hold frame handlers ≡ true → EachHolds (catches_marks frame looped handlers) → CatchesHaveRules frame looped handlers
  catches_ruled frame looped tree.no_catches k h = typing.no_catches
  catches_ruled frame looped (tree.more_catches class i body rest) k h =
      let q = each_of_both (stmts_marks frame looped body) (catches_marks frame looped rest) h in
      let r = and_parts (catch_holds frame class i) (catches_hold frame rest) k in
      let c = caught frame class i r.0 in
      typing.more_catches c.named c.thrown c.local c.other c.steps (stmts_ruled frame looped body q.0) (catches_ruled frame looped rest r.1 q.1)

-- ---- what has a rule is accepted

-- catches that the function accepts
record CatchesPass (frame : Frame) (looped : Bool) (handlers : PlainCatches) : Type 0 where
  marks : EachHolds (catches_marks frame looped handlers)
  hold : catches_hold frame handlers ≡ true

mutual
  pub stmt_passes : {frame : Frame} {looped : Bool} {s : PlainStmt} → HasRule frame looped s → EachHolds (stmt_marks frame looped s)
  stmt_passes (typing.evaluate x) = (expr_passes x).marks
  stmt_passes {frame} {looped} (typing.if_else {c = c} {a = a} {b = b} x y z) =
      let p = expr_passes x in
      and_from _ _ (ap bool_part p.known ∙ (bool_part-Decides (given bool_type)).1 refl)
      (three_hold (expr_marks frame c) (stmt_marks frame looped a) (stmt_marks frame looped b) p.marks (stmt_passes y) (stmt_passes z))
  stmt_passes {frame} {looped} (typing.loop {test_last = test_last} {c = c} {body = body} {update = update} x y n z) =
      let p = expr_passes x in
      and_from _ _
      (ap (λ (k : Known). loop_holds test_last k (are_none update)) p.known ∙ (loop-Decides test_last (given bool_type) update).1 (refl, n))
      (three_hold (expr_marks frame c) (stmt_marks frame true body) (exprs_marks frame update) p.marks (stmt_passes y) (each_passes z))
  stmt_passes typing.break_loop = refl
  stmt_passes typing.continue_loop = refl
  stmt_passes {frame} (typing.return_nothing e) = and_from _ _ ((returns_nothing-Decides frame.result).1 e) refl
  stmt_passes {frame} (typing.return_value {e = e} {s = s} {t = t} is n x k) =
      let p = expr_passes x in
      and_from _ _ ((λ i. returns_value frame.pairs (is i) (p.known i)) ∙ returns_so frame.pairs t s n k) p.marks
  stmt_passes {frame} (typing.throw {s = s} x k) =
      let p = expr_passes x in
      and_from _ _ (ap (is_thrown frame.pairs) p.known ∙ (is_thrown-Decides frame.pairs s).1 k) p.marks
  stmt_passes {frame} {looped} (typing.try_catch {body = body} {catches = handlers} x y) =
      let p = catches_pass y in
      and_from _ _ p.hold (both_hold (stmts_marks frame looped body) (catches_marks frame looped handlers) (stmts_pass x) p.marks)
  stmt_passes (typing.block x) = stmts_pass x

  pub stmts_pass : {frame : Frame} {looped : Bool} {body : PlainStmts} → HaveRules frame looped body → EachHolds (stmts_marks frame looped body)
  stmts_pass typing.no_stmts = refl
  stmts_pass {frame} {looped} (typing.more_stmts {s = s} {rest = rest} x y) =
      both_hold (stmt_marks frame looped s) (stmts_marks frame looped rest) (stmt_passes x) (stmts_pass y)

  catches_pass : {frame : Frame} {looped : Bool} {handlers : PlainCatches} → CatchesHaveRules frame looped handlers → CatchesPass frame looped handlers
  catches_pass typing.no_catches = record { marks = refl; hold = refl }
  catches_pass {frame} {looped} (typing.more_catches {class = class} {i = i} {t = t} {body = body} {rest = rest} n th l o k x y) =
      let p = catches_pass y in
      let c : Caught frame class i = record { named = n; thrown = th; type = t; local = l; other = o; steps = k } in
      record {
        marks = both_hold (stmts_marks frame looped body) (catches_marks frame looped rest) (stmts_pass x) p.marks;
        hold = and_from _ _ (catches c) p.hold;
      }

-- ---- the laws

pub statements_decided : StatementsDecided
statements_decided frame looped s = (stmt_passes, stmt_ruled frame looped s)

pub bodies_decided : BodiesDecided
bodies_decided frame looped body = (stmts_pass, stmts_ruled frame looped body)
