use Rattle.std.proofs.Common.{◌≡◌, ap, sym, ◌∙◌, subst, List, Err, rules}
use Rattle.bcj_parser_trees.specs.declared.statement.Stmt.{Stmt}
use Rattle.bcj_parser_trees.specs.Trees as source
use Rattle.bcj_parser_trees.specs.Trees.{PlainStmt}
use Rattle.bcj_parser_trees.proofs.PlainLemmas.{stmt-If, stmt-For, stmt-Try}
use Rattle.bcj_parser_trees.specs.Plain.{expr_of, exprs_of, option_of, stmt_of, stmts_of, else_of, catches_of}
use Rattle.bcj_symbolic_trees.specs.declared.type_tree.Ty.{Ty}
use Rattle.bcj_symbolic_trees.specs.Types.{ty_of, types_of}
use Rattle.bcj_typing_rules.specs.function.Statements.{run}
use Rattle.bcj_typing_node.specs.Typings.{typing_of, typings_of}
use Rattle.bcj_typing_scope.specs.Scopes.{answers_in, context_of}
use Rattle.bcj_typing_effect.specs.Tests.{test_in}
use Rattle.bcj_typing_statement.specs.Told.{TellsEffect}
use Rattle.bcj_typing_statement.proofs.Outcomes.{missed, same_missed}
use Rattle.bcj_typing_statement.proofs.Scopes.{ok_then, stays_itself, stays_left, stays_turn, stays_both, keeps_itself, keeps_both, keeps_stays}
use Rattle.bcj_typing_statement.proofs.Sequences.{rest_begins, rest_goes_on, rest_missed, rest_ends}
use Rattle.bcj_typing_statement.proofs.Handlers.{catches_begin, catches_go_on, catches_missed, catches_come_to_an_end}
use Rattle.bcj_typing_statement.proofs.Whole.{if_told, if_first_missed, if_second_missed, while_told, while_missed, do_told, do_body_missed, do_test_missed, block_told, block_missed, part_told, for_told, for_update_missed, for_body_missed, try_told, try_missed}
use Rattle.bcj_typing_statement.proofs.Locals.{catch_keeps, handler_told, handler_missed}
use Rattle.bcj_typing_statement.proofs.statement.+statement.Goals as goal

-- ---- statements one behind the other

pub sequence-loop-one-init : goal.sequence-loop-one-init
sequence-loop-one-init t c =
    record { told = rest_begins c.args.scope.now c.args.body.now c.no_statements-all.result c.no_statements-all.ensures.trees c.no_statements-all.ensures.steps; keeps = keeps_itself c.args.scope.now }

pub sequence-loop-one-preserved : goal.sequence-loop-one-preserved
sequence-loop-one-preserved t c =
    record {
      told =
          rest_goes_on c.loop-one.scope c.statement.new.scope c.args.body.now c.loop-one.one-index c.one-item.result c.loop-one.all c.in_ok-all.all c.in_ok-next.next _ c.loop-one-test.true
          c.one-item.is c.in_ok-next.ensures.told c.in_ok-next.ensures.keeps c.in_ok-all.ensures.trees c.in_ok-all.ensures.steps c.loop-one.invariant.told;
      keeps = keeps_both _ _ _ c.loop-one.invariant.keeps c.in_ok-next.ensures.keeps;
    }

pub sequence-returns-in_err-next-clause-told : goal.sequence-returns-in_err-next-clause-told
sequence-returns-in_err-next-clause-told t c =
    let failed : c.from_residual.result ≡ Err c.in_err-next.field-0.0 = first_of (cc, search rules) in
    rw failed
    (rest_missed c.loop-one.scope c.args.body.now c.loop-one.one-index c.one-item.result c.loop-one.all _ c.in_err-next.field-0.0 c.loop-one-test.true c.one-item.is c.in_err-next.ensures.told
    c.loop-one.invariant.told)

pub sequence-returns-clause-told : goal.sequence-returns-clause-told
sequence-returns-clause-told t c = rest_ends c.loop-one.scope c.args.body.now c.loop-one.one-index c.loop-one.all _ c.loop-one-test.false c.loop-one.invariant.told

pub sequence-returns-clause-keeps : goal.sequence-returns-clause-keeps
sequence-returns-clause-keeps t c = c.loop-one.invariant.keeps

-- ---- a block

pub enclosed-returns-in_err-all-clause-told : goal.enclosed-returns-in_err-all-clause-told
enclosed-returns-in_err-all-clause-told t c =
    let failed : c.from_residual.result ≡ Err c.in_err-all.field-0.0 = first_of (cc, search rules) in
    rw failed (block_missed c.args.scope.now c.args.at (stmts_of c.args.body.now) c.in_err-all.field-0.0 c.in_err-all.ensures.told)

pub enclosed-returns-clause-told : goal.enclosed-returns-clause-told
enclosed-returns-clause-told t c =
    block_told c.args.scope.now c.sequence.new.scope c.leave.new.scope c.len-outer.result c.args.at (stmts_of c.args.body.now) c.in_ok-all.all c.block.result c.in_ok-all.ensures.told
    c.in_ok-all.ensures.keeps c.len-outer.ensures c.leave.ensures c.block.ensures

pub enclosed-returns-clause-keeps : goal.enclosed-returns-clause-keeps
enclosed-returns-clause-keeps t c =
    ok_then _ (keeps_stays _ _ (stays_left c.args.scope.now c.sequence.new.scope c.leave.new.scope c.len-outer.result c.in_ok-all.ensures.keeps c.len-outer.ensures c.leave.ensures))

-- ---- parts of statements

pub part-returns-in_err-all-clause-told : goal.part-returns-in_err-all-clause-told
part-returns-in_err-all-clause-told t c =
    let failed : c.from_residual.result ≡ Err c.in_err-all.field-0.0 = first_of (cc, search rules) in
    rw failed (missed _ _ c.in_err-all.field-0.0 c.in_err-all.ensures.told)

pub part-returns-clause-told : goal.part-returns-clause-told
part-returns-clause-told t c =
    part_told c.args.scope.now c.statement.new.scope c.leave.new.scope c.len-outer.result (stmt_of c.args.one.now) c.in_ok-all.all c.in_ok-all.ensures.told c.leave.ensures

pub part-returns-clause-stays : goal.part-returns-clause-stays
part-returns-clause-stays t c =
    stays_left c.args.scope.now c.statement.new.scope c.leave.new.scope c.len-outer.result c.in_ok-all.ensures.keeps c.len-outer.ensures c.leave.ensures

pub turn-returns-in_err-body-clause-told : goal.turn-returns-in_err-body-clause-told
turn-returns-in_err-body-clause-told t c =
    let failed : c.from_residual.result ≡ Err c.in_err-body.field-0.0 = first_of (cc, search rules) in
    rw failed c.in_err-body.ensures.told

pub turn-returns-clause-told : goal.turn-returns-clause-told
turn-returns-clause-told t c = c.in_ok-body.ensures.told

pub turn-returns-clause-stays : goal.turn-returns-clause-stays
turn-returns-clause-stays t c = stays_turn c.args.scope.now c.part.new.scope c.in_ok-body.ensures.stays

-- ---- an `if`

pub otherwise-returns-in-None-clause-stays : goal.otherwise-returns-in-None-clause-stays
otherwise-returns-in-None-clause-stays t c = ok_then _ (stays_itself _)

-- ---- loops

pub tested_first-returns-in_err-body-clause-told : goal.tested_first-returns-in_err-body-clause-told
tested_first-returns-in_err-body-clause-told t c =
    let failed : c.from_residual-in_err-body.result ≡ Err c.in_err-body.field-0.0 = first_of (cc, search rules) in
    rw failed
    (while_missed c.args.scope.now (expr_of c.args.cond.now) (typing_of c.in_ok-test.test) c.in_ok-test.ensures.typing c.args.at (stmt_of c.args.body.now) c.in_err-body.field-0.0 c.in_err-body.ensures.told)

pub tested_first-returns-clause-told : goal.tested_first-returns-clause-told
tested_first-returns-clause-told t c =
    while_told c.args.scope.now (expr_of c.args.cond.now) (typing_of c.in_ok-test.test) c.in_ok-test.ensures.typing c.turn.new.scope c.args.at (stmt_of c.args.body.now) c.in_ok-body.body
    c.while_loop.result c.in_ok-body.ensures.told c.in_ok-body.ensures.stays c.while_loop.ensures

pub tested_first-returns-clause-keeps : goal.tested_first-returns-clause-keeps
tested_first-returns-clause-keeps t c = ok_then _ (keeps_stays _ _ c.in_ok-body.ensures.stays)

pub tested_last-returns-in_err-body-clause-told : goal.tested_last-returns-in_err-body-clause-told
tested_last-returns-in_err-body-clause-told t c =
    let failed : c.from_residual.result ≡ Err c.in_err-body.field-0.0 = first_of (cc, search rules) in
    rw failed (do_body_missed c.args.scope.now (expr_of c.args.cond.now) c.args.at (stmt_of c.args.body.now) c.in_err-body.field-0.0 c.in_err-body.ensures.told)

pub tested_last-returns-in_err-test-clause-told : goal.tested_last-returns-in_err-test-clause-told
tested_last-returns-in_err-test-clause-told t c =
    let failed : c.from_residual-in_err-test.result ≡ Err c.in_err-test.field-0.0 = first_of (cc, search rules) in
    rw failed
    (do_test_missed c.args.scope.now c.turn.new.scope (expr_of c.args.cond.now) c.args.at (stmt_of c.args.body.now) c.in_ok-body.body c.in_err-test.field-0.0 c.in_ok-body.ensures.told
    c.in_ok-body.ensures.stays c.in_err-test.ensures.typing)

pub tested_last-returns-clause-told : goal.tested_last-returns-clause-told
tested_last-returns-clause-told t c =
    do_told c.args.scope.now c.turn.new.scope (expr_of c.args.cond.now) (typing_of c.in_ok-test.test) c.args.at (stmt_of c.args.body.now) c.in_ok-body.body c.do_loop.result
    c.in_ok-body.ensures.told c.in_ok-body.ensures.stays c.in_ok-test.ensures.typing c.do_loop.ensures

pub tested_last-returns-clause-keeps : goal.tested_last-returns-clause-keeps
tested_last-returns-clause-keeps t c = ok_then _ (keeps_stays _ _ c.in_ok-body.ensures.stays)

-- ---- a `try`

pub handler-returns-in_err-body-clause-told : goal.handler-returns-in_err-body-clause-told
handler-returns-in_err-body-clause-told t c =
    let failed : c.from_residual-in_err-body.result ≡ Err c.in_err-body.field-0.0 = first_of (cc, search rules) in
    rw failed
    (handler_missed c.args.scope.now c.enter.new.scope (record c.enter.new.scope { types = c.push.new.self }) c.args.one.now c.in_ok-copy.field-0 c.in_ok-number.number c.in_ok-copy.ensures
    c.in_ok-number.ensures.number c.in_ok-number.ensures.scope (ap (λ (ts : List Ty). record c.enter.new.scope { types = ts }) c.in_ok-push.ensures.ok) c.as_slice.result.now c.args.before
    c.in_err-body.field-0.0 c.as_slice.ensures c.in_err-body.ensures.told)

pub handler-returns-clause-told : goal.handler-returns-clause-told
handler-returns-clause-told t c =
    handler_told c.args.scope.now c.enter.new.scope (record c.enter.new.scope { types = c.push.new.self }) c.args.one.now c.in_ok-copy.field-0 c.in_ok-number.number c.in_ok-copy.ensures
    c.in_ok-number.ensures.number c.in_ok-number.ensures.scope (ap (λ (ts : List Ty). record c.enter.new.scope { types = ts }) c.in_ok-push.ensures.ok) c.sequence.new.scope c.leave.new.scope
    c.len-outer.result c.as_slice.result.now c.in_ok-body.body c.in_ok-all.all c.args.before (ty_of c.in_ok-to.to) c.in_ok-missing.missing c.as_slice.ensures c.in_ok-body.ensures.told c.leave.ensures
    c.in_ok-to.ensures c.in_ok-missing.ensures c.in_ok-all.ensures

pub handler-returns-clause-stays : goal.handler-returns-clause-stays
handler-returns-clause-stays t c =
    let entered =
    catch_keeps c.args.scope.now c.enter.new.scope (record c.enter.new.scope { types = c.push.new.self }) c.args.one.now c.in_ok-copy.field-0 c.in_ok-number.number c.in_ok-copy.ensures
    c.in_ok-number.ensures.number c.in_ok-number.ensures.scope (ap (λ (ts : List Ty). record c.enter.new.scope { types = ts }) c.in_ok-push.ensures.ok) in
    stays_left c.args.scope.now c.sequence.new.scope c.leave.new.scope c.len-outer.result (keeps_both _ _ _ entered c.in_ok-body.ensures.keeps) c.len-outer.ensures c.leave.ensures

pub handlers-loop-one-init : goal.handlers-loop-one-init
handlers-loop-one-init t c = record { told = catches_begin c.args.scope.now c.args.catches.now c.no_catches-all.result c.no_catches-all.ensures; stays = stays_itself c.args.scope.now }

pub handlers-loop-one-preserved : goal.handlers-loop-one-preserved
handlers-loop-one-preserved t c =
    record {
      told =
          catches_go_on c.loop-one.scope c.handler.new.scope c.args.catches.now c.loop-one.one-index c.one-item.result c.loop-one.all c.in_ok-all.all _ c.loop-one-test.true c.one-item.is
          c.in_ok-all.ensures.told c.in_ok-all.ensures.stays c.loop-one.invariant.told;
      stays = stays_both _ _ _ c.loop-one.invariant.stays c.in_ok-all.ensures.stays;
    }

pub handlers-returns-in_err-all-clause-told : goal.handlers-returns-in_err-all-clause-told
handlers-returns-in_err-all-clause-told t c =
    let failed : c.from_residual.result ≡ Err c.in_err-all.field-0.0 = first_of (cc, search rules) in
    rw failed
    (catches_missed c.loop-one.scope c.args.catches.now c.loop-one.one-index c.one-item.result c.loop-one.all _ c.in_err-all.field-0.0 c.loop-one-test.true c.one-item.is c.in_err-all.ensures.told
    c.loop-one.invariant.told)

pub handlers-returns-clause-told : goal.handlers-returns-clause-told
handlers-returns-clause-told t c =
    catches_come_to_an_end c.loop-one.scope c.args.catches.now c.loop-one.one-index c.loop-one.all _ c.loop-one-test.false c.loop-one.invariant.told

pub handlers-returns-clause-stays : goal.handlers-returns-clause-stays
handlers-returns-clause-stays t c = c.loop-one.invariant.stays

-- ---- statements that leave the scope as it is

pub statement-returns-in-Empty-clause-keeps : goal.statement-returns-in-Empty-clause-keeps
statement-returns-in-Empty-clause-keeps t c = ok_then _ (keeps_itself _)

pub statement-returns-in-Eval-clause-keeps : goal.statement-returns-in-Eval-clause-keeps
statement-returns-in-Eval-clause-keeps t c = ok_then _ (keeps_itself _)

pub statement-returns-in-Return-clause-keeps : goal.statement-returns-in-Return-clause-keeps
statement-returns-in-Return-clause-keeps t c = ok_then _ (keeps_itself _)

pub statement-returns-in-Throw-clause-keeps : goal.statement-returns-in-Throw-clause-keeps
statement-returns-in-Throw-clause-keeps t c = ok_then _ (keeps_itself _)

pub statement-returns-in-Break-clause-keeps : goal.statement-returns-in-Break-clause-keeps
statement-returns-in-Break-clause-keeps t c = ok_then _ (keeps_itself _)

pub statement-returns-in-Continue-clause-keeps : goal.statement-returns-in-Continue-clause-keeps
statement-returns-in-Continue-clause-keeps t c = ok_then _ (keeps_itself _)

-- ---- an `if`

pub statement-returns-in_err-first-in-If-clause-told : goal.statement-returns-in_err-first-in-If-clause-told
statement-returns-in_err-first-in-If-clause-told t c =
    let failed : c.from_residual-in_err-first-in-If.result ≡ Err c.in_err-first-in-If.field-0.0 = first_of (cc, search rules) in
    let node : stmt_of c.args.one.now ≡ source.if_else c.in-If.at (expr_of c.in-If.cond) (stmt_of c.get.result.now) (else_of c.in-If.second) =
    ap stmt_of c.in-If.is ∙ stmt-If _ _ _ _ ∙ ap (λ (g : Stmt). source.if_else c.in-If.at (expr_of c.in-If.cond) (stmt_of g) (else_of c.in-If.second)) (sym c.get.ensures) in
    rw failed
    (same_missed (run (answers_in c.args.scope.now) (context_of c.args.scope.now) (types_of c.args.scope.now.types) (source.if_else c.in-If.at (expr_of c.in-If.cond) (stmt_of c.get.result.now) (else_of c.in-If.second))) (run (answers_in c.args.scope.now) (context_of c.args.scope.now) (types_of c.args.scope.now.types) (stmt_of c.args.one.now)) c.in_err-first-in-If.field-0.0 (ap (run (answers_in c.args.scope.now) (context_of c.args.scope.now) (types_of c.args.scope.now.types)) node)
    (if_first_missed c.args.scope.now (expr_of c.in-If.cond) (typing_of c.in_ok-test-in-If.test) c.in_ok-test-in-If.ensures.typing c.in-If.at (stmt_of c.get.result.now) (else_of c.in-If.second) c.in_err-first-in-If.field-0.0 c.in_err-first-in-If.ensures.told))

pub statement-returns-in_err-second-in-If-clause-told : goal.statement-returns-in_err-second-in-If-clause-told
statement-returns-in_err-second-in-If-clause-told t c =
    let failed : c.from_residual-in_err-second-in-If.result ≡ Err c.in_err-second-in-If.field-0.0 = first_of (cc, search rules) in
    let node : stmt_of c.args.one.now ≡ source.if_else c.in-If.at (expr_of c.in-If.cond) (stmt_of c.get.result.now) (else_of c.in-If.second) =
    ap stmt_of c.in-If.is ∙ stmt-If _ _ _ _ ∙ ap (λ (g : Stmt). source.if_else c.in-If.at (expr_of c.in-If.cond) (stmt_of g) (else_of c.in-If.second)) (sym c.get.ensures) in
    rw failed
    (same_missed (run (answers_in c.args.scope.now) (context_of c.args.scope.now) (types_of c.args.scope.now.types) (source.if_else c.in-If.at (expr_of c.in-If.cond) (stmt_of c.get.result.now) (else_of c.in-If.second))) (run (answers_in c.args.scope.now) (context_of c.args.scope.now) (types_of c.args.scope.now.types) (stmt_of c.args.one.now)) c.in_err-second-in-If.field-0.0 (ap (run (answers_in c.args.scope.now) (context_of c.args.scope.now) (types_of c.args.scope.now.types)) node)
    (if_second_missed c.args.scope.now (expr_of c.in-If.cond) (typing_of c.in_ok-test-in-If.test) c.in_ok-test-in-If.ensures.typing c.part.new.scope c.in-If.at (stmt_of c.get.result.now) (else_of c.in-If.second) c.in_ok-first-in-If.first c.in_err-second-in-If.field-0.0 c.in_ok-first-in-If.ensures.told c.in_ok-first-in-If.ensures.stays c.in_err-second-in-If.ensures.told))

pub statement-returns-in_ok-second-in-If-clause-told : goal.statement-returns-in_ok-second-in-If-clause-told
statement-returns-in_ok-second-in-If-clause-told t c =
    let node : stmt_of c.args.one.now ≡ source.if_else c.in-If.at (expr_of c.in-If.cond) (stmt_of c.get.result.now) (else_of c.in-If.second) =
    ap stmt_of c.in-If.is ∙ stmt-If _ _ _ _ ∙ ap (λ (g : Stmt). source.if_else c.in-If.at (expr_of c.in-If.cond) (stmt_of g) (else_of c.in-If.second)) (sym c.get.ensures) in
    subst (λ (x : PlainStmt). TellsEffect (run (answers_in c.args.scope.now) (context_of c.args.scope.now) (types_of c.args.scope.now.types) x) c.if_else.result c.otherwise.new.scope) (sym node)
    (if_told c.args.scope.now (expr_of c.in-If.cond) (typing_of c.in_ok-test-in-If.test) c.in_ok-test-in-If.ensures.typing c.part.new.scope c.otherwise.new.scope c.in-If.at (stmt_of c.get.result.now) (else_of c.in-If.second) c.in_ok-first-in-If.first c.in_ok-second-in-If.second c.if_else.result c.in_ok-first-in-If.ensures.told c.in_ok-first-in-If.ensures.stays c.in_ok-second-in-If.ensures.told c.in_ok-second-in-If.ensures.stays c.if_else.ensures)

-- ---- a `for`

pub statement-returns-in_err-update-in-For-clause-told : goal.statement-returns-in_err-update-in-For-clause-told
statement-returns-in_err-update-in-For-clause-told t c =
    let failed : c.from_residual-in_err-update-in-For.result ≡ Err c.in_err-update-in-For.field-0.0 = first_of (cc, search rules) in
    let node : stmt_of c.args.one.now ≡ source.for_loop c.in-For.at (stmts_of c.as_slice-in-For.result.now) (option_of c.in-For.cond) (exprs_of c.as_slice-in-For-2.result.now) (stmt_of c.in-For.body) =
    ap stmt_of c.in-For.is ∙ stmt-For _ _ _ _ _
    ∙ (λ i. source.for_loop c.in-For.at (stmts_of (sym c.as_slice-in-For.ensures i)) (option_of c.in-For.cond) (exprs_of (sym c.as_slice-in-For-2.ensures i)) (stmt_of c.in-For.body)) in
    rw failed
    (same_missed (run (answers_in c.args.scope.now) (context_of c.args.scope.now) (types_of c.args.scope.now.types) (source.for_loop c.in-For.at (stmts_of c.as_slice-in-For.result.now) (option_of c.in-For.cond) (exprs_of c.as_slice-in-For-2.result.now) (stmt_of c.in-For.body))) (run (answers_in c.args.scope.now) (context_of c.args.scope.now) (types_of c.args.scope.now.types) (stmt_of c.args.one.now)) c.in_err-update-in-For.field-0.0 (ap (run (answers_in c.args.scope.now) (context_of c.args.scope.now) (types_of c.args.scope.now.types)) node)
    (for_update_missed c.args.scope.now c.sequence.new.scope c.in-For.at (stmts_of c.as_slice-in-For.result.now) (option_of c.in-For.cond) (exprs_of c.as_slice-in-For-2.result.now) (stmt_of c.in-For.body) c.in_ok-init-in-For.init c.in_ok-init-in-For.ensures.told c.in_ok-init-in-For.ensures.keeps (test_in c.in_ok-cond-in-For.cond) c.in_err-update-in-For.field-0.0 c.in_ok-cond-in-For.ensures c.in_err-update-in-For.ensures))

pub statement-returns-in_err-body-in-For-clause-told : goal.statement-returns-in_err-body-in-For-clause-told
statement-returns-in_err-body-in-For-clause-told t c =
    let failed : c.from_residual-in_err-body-in-For.result ≡ Err c.in_err-body-in-For.field-0.0 = first_of (cc, search rules) in
    let node : stmt_of c.args.one.now ≡ source.for_loop c.in-For.at (stmts_of c.as_slice-in-For.result.now) (option_of c.in-For.cond) (exprs_of c.as_slice-in-For-2.result.now) (stmt_of c.get-in-For.result.now) =
    ap stmt_of c.in-For.is ∙ stmt-For _ _ _ _ _
    ∙ (λ i. source.for_loop c.in-For.at (stmts_of (sym c.as_slice-in-For.ensures i)) (option_of c.in-For.cond) (exprs_of (sym c.as_slice-in-For-2.ensures i)) (stmt_of (sym c.get-in-For.ensures i))) in
    rw failed
    (same_missed (run (answers_in c.args.scope.now) (context_of c.args.scope.now) (types_of c.args.scope.now.types) (source.for_loop c.in-For.at (stmts_of c.as_slice-in-For.result.now) (option_of c.in-For.cond) (exprs_of c.as_slice-in-For-2.result.now) (stmt_of c.get-in-For.result.now))) (run (answers_in c.args.scope.now) (context_of c.args.scope.now) (types_of c.args.scope.now.types) (stmt_of c.args.one.now)) c.in_err-body-in-For.field-0.0 (ap (run (answers_in c.args.scope.now) (context_of c.args.scope.now) (types_of c.args.scope.now.types)) node)
    (for_body_missed c.args.scope.now c.sequence.new.scope c.in-For.at (stmts_of c.as_slice-in-For.result.now) (option_of c.in-For.cond) (exprs_of c.as_slice-in-For-2.result.now) (stmt_of c.get-in-For.result.now) c.in_ok-init-in-For.init c.in_ok-init-in-For.ensures.told c.in_ok-init-in-For.ensures.keeps (test_in c.in_ok-cond-in-For.cond) (typings_of c.in_ok-update-in-For.update) c.in_err-body-in-For.field-0.0 c.in_ok-cond-in-For.ensures c.in_ok-update-in-For.ensures c.in_err-body-in-For.ensures.told))

pub statement-returns-in_ok-body-in-For-clause-told : goal.statement-returns-in_ok-body-in-For-clause-told
statement-returns-in_ok-body-in-For-clause-told t c =
    let node : stmt_of c.args.one.now ≡ source.for_loop c.in-For.at (stmts_of c.as_slice-in-For.result.now) (option_of c.in-For.cond) (exprs_of c.as_slice-in-For-2.result.now) (stmt_of c.get-in-For.result.now) =
    ap stmt_of c.in-For.is ∙ stmt-For _ _ _ _ _
    ∙ (λ i. source.for_loop c.in-For.at (stmts_of (sym c.as_slice-in-For.ensures i)) (option_of c.in-For.cond) (exprs_of (sym c.as_slice-in-For-2.ensures i)) (stmt_of (sym c.get-in-For.ensures i))) in
    subst (λ (x : PlainStmt). TellsEffect (run (answers_in c.args.scope.now) (context_of c.args.scope.now) (types_of c.args.scope.now.types) x) c.for_loop.result c.leave.new.scope) (sym node)
    (for_told c.args.scope.now c.sequence.new.scope c.in-For.at (stmts_of c.as_slice-in-For.result.now) (option_of c.in-For.cond) (exprs_of c.as_slice-in-For-2.result.now) (stmt_of c.get-in-For.result.now) c.in_ok-init-in-For.init c.in_ok-init-in-For.ensures.told c.in_ok-init-in-For.ensures.keeps c.turn.new.scope c.leave.new.scope c.len-outer.result (test_in c.in_ok-cond-in-For.cond) (typings_of c.in_ok-update-in-For.update) c.in_ok-body-in-For.body c.for_loop.result c.in_ok-cond-in-For.ensures c.in_ok-update-in-For.ensures c.in_ok-body-in-For.ensures.told c.in_ok-body-in-For.ensures.stays c.len-outer.ensures c.leave.ensures c.for_loop.ensures)

pub statement-returns-in_ok-body-in-For-clause-keeps : goal.statement-returns-in_ok-body-in-For-clause-keeps
statement-returns-in_ok-body-in-For-clause-keeps t c =
    ok_then _
    (keeps_stays _ _
    (stays_left c.args.scope.now c.turn.new.scope c.leave.new.scope c.len-outer.result
    (keeps_both c.args.scope.now c.sequence.new.scope c.turn.new.scope c.in_ok-init-in-For.ensures.keeps (keeps_stays c.sequence.new.scope c.turn.new.scope c.in_ok-body-in-For.ensures.stays)) c.len-outer.ensures
    c.leave.ensures))

-- ---- a `try`

pub statement-returns-in_err-handled-in-Try-clause-told : goal.statement-returns-in_err-handled-in-Try-clause-told
statement-returns-in_err-handled-in-Try-clause-told t c =
    let failed : c.from_residual-in_err-handled-in-Try.result ≡ Err c.in_err-handled-in-Try.field-0.0 = first_of (cc, search rules) in
    let node : stmt_of c.args.one.now ≡ source.try_catch c.in-Try.at (stmts_of c.as_slice-in-Try.result.now) (catches_of c.as_slice-in-Try-2.result.now) =
    ap stmt_of c.in-Try.is ∙ stmt-Try _ _ _ ∙ (λ i. source.try_catch c.in-Try.at (stmts_of (sym c.as_slice-in-Try.ensures i)) (catches_of (sym c.as_slice-in-Try-2.ensures i))) in
    rw failed
    (same_missed (run (answers_in c.args.scope.now) (context_of c.args.scope.now) (types_of c.args.scope.now.types) (source.try_catch c.in-Try.at (stmts_of c.as_slice-in-Try.result.now) (catches_of c.as_slice-in-Try-2.result.now))) (run (answers_in c.args.scope.now) (context_of c.args.scope.now) (types_of c.args.scope.now.types) (stmt_of c.args.one.now)) c.in_err-handled-in-Try.field-0.0 (ap (run (answers_in c.args.scope.now) (context_of c.args.scope.now) (types_of c.args.scope.now.types)) node)
    (try_missed c.args.scope.now c.sequence-in-Try.new.scope c.leave-in-Try.new.scope c.len-begin.result c.in-Try.at (stmts_of c.as_slice-in-Try.result.now) (catches_of c.as_slice-in-Try-2.result.now) c.in_ok-tried-in-Try.tried c.in_ok-tried-in-Try.ensures.told c.in_ok-tried-in-Try.ensures.keeps c.len-begin.ensures c.leave-in-Try.ensures c.in_err-handled-in-Try.field-0.0 c.in_err-handled-in-Try.ensures.told))

pub statement-returns-in_ok-handled-in-Try-clause-told : goal.statement-returns-in_ok-handled-in-Try-clause-told
statement-returns-in_ok-handled-in-Try-clause-told t c =
    let node : stmt_of c.args.one.now ≡ source.try_catch c.in-Try.at (stmts_of c.as_slice-in-Try.result.now) (catches_of c.as_slice-in-Try-2.result.now) =
    ap stmt_of c.in-Try.is ∙ stmt-Try _ _ _ ∙ (λ i. source.try_catch c.in-Try.at (stmts_of (sym c.as_slice-in-Try.ensures i)) (catches_of (sym c.as_slice-in-Try-2.ensures i))) in
    subst (λ (x : PlainStmt). TellsEffect (run (answers_in c.args.scope.now) (context_of c.args.scope.now) (types_of c.args.scope.now.types) x) c.try_catch.result c.handlers.new.scope) (sym node)
    (try_told c.args.scope.now c.sequence-in-Try.new.scope c.leave-in-Try.new.scope c.len-begin.result c.in-Try.at (stmts_of c.as_slice-in-Try.result.now) (catches_of c.as_slice-in-Try-2.result.now) c.in_ok-tried-in-Try.tried c.in_ok-tried-in-Try.ensures.told c.in_ok-tried-in-Try.ensures.keeps c.len-begin.ensures c.leave-in-Try.ensures c.handlers.new.scope c.in_ok-handled-in-Try.handled c.try_catch.result c.in_ok-handled-in-Try.ensures.told c.in_ok-handled-in-Try.ensures.stays c.try_catch.ensures)
