use Rattle.std.proofs.Common.{◌∙◌, ap}
use Rattle.bcj_object_rules.specs.Objects.{object}
use Rattle.bcj_object_boot.specs.Boot.{boot_object}
use Rattle.bcj_object_boot.proofs.making.make_boot.Goals as goal

pub returns-then-is_rooted-clause-is : goal.returns-then-is_rooted-clause-is
unfolding boot_object
returns-then-is_rooted-clause-is c = c.in-Ok.ensures.ok ∙ ap object c.in_ok-unit.ensures.plain
