use Rattle.std.proofs.Common.{rules, arith}
use Rattle.bcj_elf.proofs.Written.{one_more, room_goes_on, room_ends}
use Rattle.bcj_elf.proofs.rules.names_size.Goals as goal

pub loop-s-preserved : goal.loop-s-preserved
loop-s-preserved c =
    let next = one_more c.args.symbols.now c.loop-s.s-index c.s-item.result c.loop-s-test.true c.s-item.is in
    record { room = room_goes_on _ c.loop-s.size c.len-name.result c.s-item.result _ _ next (search rules) c.loop-s.invariant.room; small = omega arith }

pub returns-then-name-most-clause-none : goal.returns-then-name-most-clause-none
returns-then-name-most-clause-none c =
    let next = one_more c.args.symbols.now c.loop-s.s-index c.s-item.result c.loop-s-test.true c.s-item.is in
    let room = room_goes_on _ c.loop-s.size c.len-name.result c.s-item.result _ _ next (search rules) c.loop-s.invariant.room in
    omega arith

pub returns-clause-some : goal.returns-clause-some
returns-clause-some c = room_ends _ c.loop-s.size c.loop-s.s-index c.args.symbols.now c.loop-s-test.false c.loop-s.invariant.room
