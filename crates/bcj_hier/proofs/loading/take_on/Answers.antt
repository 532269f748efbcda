use Rattle.std.proofs.Common.{◌≡◌, ◌+◌, suc, take, subst, arith, ℕ}
use Rattle.bcj_hier.specs.Loads.{ArePassing}
use Rattle.bcj_hier.proofs.Sound.{waits_there, fails_there, passes_there}
use Rattle.bcj_hier.proofs.loading.take_on.Goals as goal

pub returns-in-Waits : goal.returns-in-Waits
returns-in-Waits c = waits_there c.args.heads.now c.args.states.now c.args.parts.now c.loop-at.at c.requires.known c.loop-at.invariant.passed c.loop-at-test.true c.in-Waits.ensures

pub returns-in-Fails : goal.returns-in-Fails
returns-in-Fails c = fails_there c.args.heads.now c.args.states.now c.args.parts.now c.loop-at.at c.in-Fails.error c.requires.known c.loop-at.invariant.passed c.loop-at-test.true c.in-Fails.ensures

pub loop-at-preserved : goal.loop-at-preserved
loop-at-preserved c =
    let e : suc c.loop-at.at ≡ c.loop-at.at + 1 = omega arith in
    record {
      passed =
          subst (λ (n : ℕ). ArePassing c.args.heads.now c.args.states.now (take n c.args.parts.now)) e
          (passes_there c.args.heads.now c.args.states.now c.args.parts.now c.loop-at.at c.requires.known c.loop-at.invariant.passed c.loop-at-test.true c.in-Passes.ensures);
      within = omega arith;
    }
