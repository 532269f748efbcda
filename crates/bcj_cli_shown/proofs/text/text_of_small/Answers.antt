use Rattle.std.proofs.Common.{arith, ◌≤◌}
use Rattle.bcj_layout_rules.specs.Places.{max_image}
use Rattle.bcj_cli_shown.proofs.Mixed.{past, within, shown, large}
use Rattle.bcj_cli_shown.proofs.text.text_of_small.Goals as goal

pub returns-then-branch-gt-MAX_IMAGE-clause-err : goal.returns-then-branch-gt-MAX_IMAGE-clause-err
returns-then-branch-gt-MAX_IMAGE-clause-err c bytes g =
    large bytes c.args.objects.now c.args.resolver.now c.requires.two g (past _ _ c.in_ok-size_of.ensures c.if-branch-gt-MAX_IMAGE.true)

pub returns-clause-ok : goal.returns-clause-ok
returns-clause-ok c bytes g =
    let small : c.in_ok-size_of.field-0 ≤ max_image = omega (arith, c.if-branch-gt-MAX_IMAGE.false) in
    shown bytes c.args.objects.now c.args.resolver.now c.in_ok-text_of_second.ensures.0 _ g c.in_ok-text_of_second.ensures.1 c.in_ok-text_of_second.ensures.2 (within _ _ c.in_ok-size_of.ensures small)
