use Rattle.bcj_elf.proofs.FirstBad.{exit}
use Rattle.bcj_elf.proofs.Turns.{padding_goes_on, padding_stops, padding_ends}
use Rattle.bcj_elf.proofs.judging_contents.judge_padding.Goals as goal

pub loop-i-preserved : goal.loop-i-preserved
loop-i-preserved c = padding_goes_on c.args.bytes.now c.args.at c.loop-i.i c.args.count _ c.loop-i-test.true c.loop-i.invariant (rw c.byte_field.ensures at c.in_ok-judge.ensures)

pub returns-in_err-judge : goal.returns-in_err-judge
returns-in_err-judge c =
    exit _ _ _ c.from_residual.ensures.1 (padding_stops c.args.bytes.now c.args.at c.loop-i.i c.args.count _ _ c.loop-i-test.true c.loop-i.invariant (rw c.byte_field.ensures at c.in_err-judge.ensures))

pub returns : goal.returns
returns c = padding_ends c.args.bytes.now c.args.at c.loop-i.i c.args.count _ c.loop-i-test.false c.loop-i.invariant
