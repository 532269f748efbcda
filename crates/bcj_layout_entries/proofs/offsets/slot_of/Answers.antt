use Rattle.bcj_layout_entries.proofs.Slots.{private-slot, open-slot}
use Rattle.bcj_layout_entries.proofs.offsets.slot_of.Goals as goal

pub returns-then-record : goal.returns-then-record
returns-then-record c = λ x r is named.
    private-slot c.args.parts.now.resolver.now c.args.parts.now.members.now c.args.parts.now.main.now c.method_record-record.result.now c.args.method.class c.slot.result c.requires.parts.members x r
    c.if-record.true c.slot.ensures (c.method_record-record.ensures.record x is) (c.method_record-record.ensures.class x is)

pub returns-else-record : goal.returns-else-record
returns-else-record c = λ x r is named.
    open-slot c.args.parts.now.resolver.now c.args.parts.now.members.now c.args.parts.now.main.now c.method_record-record.result.now c.args.named c.slot-else-record.result c.requires.parts.members x r
    c.if-record.false c.slot-else-record.ensures (c.method_record-record.ensures.record x is) named
