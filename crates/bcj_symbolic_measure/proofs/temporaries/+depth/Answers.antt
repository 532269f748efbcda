use Rattle.std.proofs.Common.{refl}
use Rattle.bcj_symbolic_trees.specs.declared.expression.SymExpr.{SymExpr}
use Rattle.bcj_symbolic_trees.specs.Plain.{expr_of, exprs_of}
use Rattle.bcj_symbolic_measure.specs.Depths.{expr_depth, exprs_depth}
use Rattle.bcj_symbolic_measure.proofs.TotalLemmas.{capped-none, capped-result, none-reached}
use Rattle.bcj_symbolic_measure.proofs.DepthLemmas.{arguments-begin, arguments-more, arguments-index, arguments-done, local-place, static-place}
use Rattle.bcj_symbolic_measure.proofs.StepLemmas.{depth_more, depth_done, depth_begin}
use Rattle.bcj_symbolic_measure.proofs.temporaries.+depth.Goals as goal

pub arguments-loop-before-init : goal.arguments-loop-before-init
arguments-loop-before-init t c = record { reached = none-reached; fits = capped-none; sums = arguments-begin _ }

pub arguments-loop-before-preserved : goal.arguments-loop-before-preserved
arguments-loop-before-preserved t c =
    record {
      reached = arguments-index _ _ _ _ _ _ c.saved-kept.ensures c.behind-reached.ensures c.larger-most.ensures;
      fits = capped-result _ _ c.larger-most.ensures;
      sums = arguments-more _ _ _ _ _ _ _ _ _ c.loop-before-test.true c.index-args-before.is c.expression.ensures c.saved-kept.ensures c.behind-reached.ensures c.larger-most.ensures c.loop-before.invariant.sums;
    }

pub arguments-returns : goal.arguments-returns
arguments-returns t c = arguments-done _ _ _ _ c.loop-before-test.false c.loop-before.invariant.reached c.loop-before.invariant.fits c.loop-before.invariant.sums

pub expressions-loop-e-init : goal.expressions-loop-e-init
expressions-loop-e-init t c = record { fits = capped-none; sums = depth_begin _ }

pub expressions-loop-e-preserved : goal.expressions-loop-e-preserved
expressions-loop-e-preserved t c =
    record {
      fits = capped-result _ _ c.larger-most.ensures;
      sums = depth_more (λ l. exprs_depth (exprs_of l)) (λ (x : SymExpr). expr_depth (expr_of x)) (λ x l. refl) _ _ _ _ _ _ _ c.loop-e-test.true c.e-item.is c.expression.ensures c.larger-most.ensures c.loop-e.invariant.sums;
    }

pub expressions-returns : goal.expressions-returns
expressions-returns t c = depth_done (λ l. exprs_depth (exprs_of l)) refl _ _ _ _ c.loop-e-test.false c.loop-e.invariant.fits c.loop-e.invariant.sums

pub place-returns-in-Local : goal.place-returns-in-Local
place-returns-in-Local t c = local-place _ _ _ c.ranges.behind.fits c.in-Local.is

pub place-returns-in-Static : goal.place-returns-in-Static
place-returns-in-Static t c = static-place _ _ _ c.ranges.behind.fits c.in-Static.is
