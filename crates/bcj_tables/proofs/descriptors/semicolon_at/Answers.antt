use Rattle.std.proofs.Common.{arith}
use Rattle.bcj_tables.proofs.DescriptorLoops.{semicolon_turn, semicolon_found, semicolon_none}
use Rattle.bcj_tables.proofs.descriptors.semicolon_at.Goals as goal

pub returns-then-byte-eq59-clause-value : goal.returns-then-byte-eq59-clause-value
returns-then-byte-eq59-clause-value c = semicolon_found c.args.text.now c.loop-i.i c.loop-i-test.true c.if-byte-eq59.true c.loop-i.invariant

pub loop-i-preserved : goal.loop-i-preserved
loop-i-preserved c = semicolon_turn c.args.text.now c.loop-i.i c.loop-i-test.true c.if-byte-eq59.false c.loop-i.invariant

pub returns-clause-value : goal.returns-clause-value
returns-clause-value c = omega (arith, semicolon_none c.args.text.now c.loop-i.i c.loop-i-test.false c.loop-i.invariant)
