use Rattle.bcj_asm.specs.function.Places.{named_place}
use Rattle.bcj_asm.proofs.Rounding.{short_by_place, long_by_place}
use Rattle.bcj_asm.proofs.rounds.next_form.Goals as goal

pub returns-then-is_near : goal.returns-then-is_near
returns-then-is_near c =
    short_by_place (named_place c.args.labels.now.named) c.args.here c.args.formed.now.form c.args.formed.now.item
    c.in-Branch.instr c.in-Branch.to c.target.result c.as_one-to.result c.is_near.result
    c.in-Branch.is c.target.ensures c.as_one-to.ensures c.is_near.ensures c.if-is_near.true

pub returns-else-is_near : goal.returns-else-is_near
returns-else-is_near c =
    long_by_place (named_place c.args.labels.now.named) c.args.here c.args.formed.now.form c.args.formed.now.item
    c.in-Branch.instr c.in-Branch.to c.target.result c.as_one-to.result c.is_near.result
    c.in-Branch.is c.target.ensures c.as_one-to.ensures c.is_near.ensures c.if-is_near.false
