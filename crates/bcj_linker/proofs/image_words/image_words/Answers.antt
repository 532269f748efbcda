use Rattle.std.proofs.Common.{arith, ◌≤◌}
use Rattle.bcj_layout_rules.specs.Places.{max_image}
use Rattle.bcj_linker.proofs.Mixed.{past, within}
use Rattle.bcj_linker.proofs.image_words.image_words.Goals as goal

pub returns-then-branch-gt-MAX_IMAGE-clause-err : goal.returns-then-branch-gt-MAX_IMAGE-clause-err
returns-then-branch-gt-MAX_IMAGE-clause-err c = past _ _ c.in_ok-image_size.ensures c.if-branch-gt-MAX_IMAGE.true

pub returns-clause-fits : goal.returns-clause-fits
returns-clause-fits c =
    let small : c.in_ok-image_size.field-0 ≤ max_image = omega (arith, c.if-branch-gt-MAX_IMAGE.false) in
    within _ _ c.in_ok-image_size.ensures small
