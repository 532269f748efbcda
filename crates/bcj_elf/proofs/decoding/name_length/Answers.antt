use Rattle.bcj_elf.proofs.Loops.{name_goes_on, name_ends, name_is_all_at}
use Rattle.bcj_elf.proofs.decoding.name_length.Goals as goal

pub returns-then-b-eq0-clause-value : goal.returns-then-b-eq0-clause-value
returns-then-b-eq0-clause-value c = name_ends c.args.names.now c.loop-i.i c.loop-i-test.true c.if-b-eq0.true c.loop-i.invariant

pub loop-i-preserved : goal.loop-i-preserved
loop-i-preserved c = name_goes_on c.args.names.now c.loop-i.i c.loop-i-test.true c.if-b-eq0.false c.loop-i.invariant

pub returns-clause-value : goal.returns-clause-value
returns-clause-value c = name_is_all_at c.args.names.now c.loop-i.i c.loop-i-test.false c.loop-i.auto.i-end c.loop-i.invariant
