use Rattle.std.proofs.Common.{rules}
use Rattle.bcj_elf.proofs.Written.{one_more, entries_go_on, room_goes_on, entries_end}
use Rattle.bcj_elf.proofs.writing.put_entries.Goals as goal

pub loop-s-preserved : goal.loop-s-preserved
loop-s-preserved c =
    let next = one_more c.args.symbols.now c.loop-s.s-index c.s-item.result c.loop-s-test.true c.s-item.is in
    record {
      written = entries_go_on c.loop-s.out.items c.put_entry.new.out.items _ c.loop-s.at c.len.result c.s-item.result _ _ next (search rules) c.in_ok-put_entry.ensures c.loop-s.invariant.written;
      room = room_goes_on _ c.loop-s.at c.len.result c.s-item.result _ _ next (search rules) c.loop-s.invariant.room;
    }

pub returns : goal.returns
returns c = entries_end c.loop-s.out.items _ c.loop-s.at c.loop-s.s-index c.args.symbols.now c.loop-s-test.false c.loop-s.invariant.written
