use Rattle.std.proofs.Common.{◌≡◌, sym, ◌∙◌, subst, None, Some}
use Rattle.bcj_object.specs.Answers.{IsExcess}
use Rattle.bcj_object_rules.specs.Sizes.{excess}
use Rattle.bcj_symbolic_trees.specs.Units.{plain_of}
use Rattle.bcj_cli_compile.proofs.Limits.{small_object}
use Rattle.bcj_cli_compile.proofs.compiling.object.Goals as goal

pub make-requires : goal.make-requires
make-requires c = record { typed = (c.accepted_is_carried.ensures _ _ _ c.requires).typed }

pub unreachable-requires : goal.unreachable-requires
unreachable-requires c =
    let past : excess (plain_of c.args.unit.now) ≡ Some c.in-Err-TooLarge.field-0-0 = subst (IsExcess (plain_of c.args.unit.now)) c.in-Err-TooLarge.field-0-is c.in-Err-TooLarge.ensures.too_large in
    let none : excess (plain_of c.args.unit.now) ≡ None = small_object (plain_of c.args.unit.now) c.requires.small in
    let wrong : None ≡ Some c.in-Err-TooLarge.field-0-0 = sym none ∙ past in
    cc
