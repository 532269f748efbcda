use Rattle.std.proofs.Common.{◌≡◌, true, not, ◌∙◌, ap, get_or, None}
use Rattle.std.specs.Option.{is_some}
use Rattle.bcj_decl_constants.proofs.Knowing.{below_next, all_below}
use Rattle.bcj_decl_constants.proofs.waiting.first_unknown.Goals as goal

pub loop-i-preserved : goal.loop-i-preserved
loop-i-preserved c =
    let some : is_some (get_or c.args.values.now (get_or c.args.needs.now c.loop-i.i 0) None) ≡ true = c.is_none.ensures ∙ ap not c.if-is_none.false in
    below_next c.args.values.now c.args.needs.now c.loop-i.i c.requires.below c.loop-i.invariant c.loop-i-test.true some

pub returns : goal.returns
returns c = all_below c.args.values.now c.args.needs.now c.loop-i.i c.loop-i.invariant c.loop-i-test.false
