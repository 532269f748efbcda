use Rattle.std.proofs.Common.{◌≡◌, suc, length, arith, ◌∙◌}
use Rattle.bcj_cli_showing.proofs.Climbs.{climb_start, climb_more, climb_top, climb_end}
use Rattle.bcj_cli_showing.proofs.tree.steps_below_object.Goals as goal

pub loop-steps-init : goal.loop-steps-init
loop-steps-init c = climb_start _ _ c.requires.there c.requires.loads

pub parent-requires-clause-there : goal.parent-requires-clause-there
parent-requires-clause-there c = c.loop-steps.invariant.there

pub parent-requires-clause-loads : goal.parent-requires-clause-loads
parent-requires-clause-loads c = c.loop-steps.invariant.loads

pub returns-in-None : goal.returns-in-None
returns-in-None c =
    climb_top _ c.requires.tree _ c.loop-steps.at _ c.loop-steps.invariant c.in-None.ensures.name

pub loop-steps-preserved : goal.loop-steps-preserved
loop-steps-preserved c =
    climb_more _ c.requires.tree _ c.loop-steps.at _ _
    (omega (arith, c.requires.turns, c.loop-steps-test.true)) c.loop-steps.invariant c.in-Some.ensures.name c.in-Some.ensures.there

pub returns : goal.returns
returns c =
    let steps : c.loop-steps.steps ≡ suc (length c.args.hier.now) = omega (arith, c.requires.turns, c.loop-steps-test.false, c.loop-steps.auto.steps-end) in
    let whole : c.args.turns ≡ c.loop-steps.steps = omega (arith, steps, c.requires.turns) in
    whole ∙ climb_end _ _ c.loop-steps.at _ steps c.loop-steps.invariant
