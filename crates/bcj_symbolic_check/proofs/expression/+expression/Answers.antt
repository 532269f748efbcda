use Rattle.bcj_symbolic_check.proofs.StepLemmas.{exprs_more, exprs_done, fit_more, fit_done}
use Rattle.bcj_symbolic_check.proofs.expression.+expression.Goals as goal

pub arguments-loop-argument-preserved : goal.arguments-loop-argument-preserved
arguments-loop-argument-preserved t c =
    record {
      marks = exprs_more _ _ _ _ _ _ _ c.loop-argument-test.true c.argument-item.is c.expression-kind.ensures.marks c.loop-argument.invariant.marks;
      fit = fit_more _ _ _ _ _ _ _ _ _ _ _ c.loop-argument-test.true c.argument-item.is c.expression-kind.ensures.gives c.first_argument-fits.ensures.fits c.first_argument-fits.ensures.rest c.both-fit.ensures c.loop-argument.invariant.fit;
    }

pub arguments-returns-clause-marks : goal.arguments-returns-clause-marks
arguments-returns-clause-marks t c = exprs_done _ _ _ _ _ c.loop-argument-test.false c.loop-argument.invariant.marks

pub arguments-returns-clause-fit : goal.arguments-returns-clause-fit
arguments-returns-clause-fit t c = fit_done _ _ _ _ _ _ _ _ c.loop-argument-test.false c.no_types.ensures c.both.ensures c.loop-argument.invariant.fit
