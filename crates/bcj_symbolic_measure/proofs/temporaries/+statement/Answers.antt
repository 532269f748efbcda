use Rattle.std.proofs.Common.{refl, ap, ◌∙◌, List}
use Rattle.bcj_symbolic_trees.specs.declared.statement.SymStmt.{SymStmt}
use Rattle.bcj_symbolic_trees.specs.declared.statement.SymCatch.{SymCatch}
use Rattle.bcj_symbolic_trees.specs.Plain.{stmt_of, stmts_of, catches_of}
use Rattle.bcj_symbolic_measure.specs.Totals.{capped}
use Rattle.bcj_symbolic_measure.specs.Depths.{stmt_depth, stmts_depth, catches_depth}
use Rattle.bcj_symbolic_measure.proofs.TotalLemmas.{capped-none, capped-result}
use Rattle.bcj_symbolic_measure.proofs.StepLemmas.{depth_more, depth_done, depth_begin}
use Rattle.bcj_symbolic_measure.proofs.temporaries.+statement.Goals as goal

pub statements-loop-one-init : goal.statements-loop-one-init
statements-loop-one-init t c = record { fits = capped-none; sums = depth_begin _ }

pub statements-loop-one-preserved : goal.statements-loop-one-preserved
statements-loop-one-preserved t c =
    record {
      fits = capped-result _ _ c.larger-most.ensures;
      sums = depth_more (λ l. stmts_depth (stmts_of l)) (λ (x : SymStmt). stmt_depth (stmt_of x)) (λ x l. refl) _ _ _ _ _ _ _ c.loop-one-test.true c.one-item.is c.statement.ensures c.larger-most.ensures c.loop-one.invariant.sums;
    }

pub statements-returns : goal.statements-returns
statements-returns t c = depth_done (λ l. stmts_depth (stmts_of l)) refl _ _ _ _ c.loop-one-test.false c.loop-one.invariant.fits c.loop-one.invariant.sums

pub handlers-loop-handler-init : goal.handlers-loop-handler-init
handlers-loop-handler-init t c = record { fits = capped-none; sums = depth_begin _ }

pub handlers-loop-handler-preserved : goal.handlers-loop-handler-preserved
handlers-loop-handler-preserved t c =
    record {
      fits = capped-result _ _ c.larger-most.ensures;
      sums = depth_more (λ l. catches_depth (catches_of l)) (λ (x : SymCatch). stmts_depth (stmts_of x.body)) (λ x l. refl) _ _ _ _ _ _ _ c.loop-handler-test.true c.handler-item.is
          (c.statements.ensures ∙ ap (λ (l : List SymStmt). capped (stmts_depth (stmts_of l))) c.as_slice.ensures) c.larger-most.ensures c.loop-handler.invariant.sums;
    }

pub handlers-returns : goal.handlers-returns
handlers-returns t c = depth_done (λ l. catches_depth (catches_of l)) refl _ _ _ _ c.loop-handler-test.false c.loop-handler.invariant.fits c.loop-handler.invariant.sums
