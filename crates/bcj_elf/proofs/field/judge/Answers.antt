use Rattle.bcj_elf.proofs.Judged.{fields_go_on, cut_ends, wrong_ends, fields_end}
use Rattle.bcj_elf.proofs.field.judge.Goals as goal
use Rattle.bcj_elf.proofs.field.judge.Goals.{then-bytes-end-via-then-bytes-end, then-bytes-end-via-else-bytes-end+then-not-field}

pub returns-then-bytes-end : goal.returns-then-bytes-end
returns-then-bytes-end c = elim c.then-bytes-end.branch [
  | then-bytes-end-via-then-bytes-end w ↦ cut_ends c.args.bytes.now c.args.fields.now c.loop-field.field-index _ _ c.loop-field-test.true w.if-bytes-end.true c.loop-field.invariant
  | then-bytes-end-via-else-bytes-end+then-not-field w ↦ wrong_ends c.args.bytes.now c.args.fields.now c.loop-field.field-index _ _ c.loop-field-test.true w.if-bytes-end.false w.if-not-field.true c.loop-field.invariant
]

pub loop-field-preserved : goal.loop-field-preserved
loop-field-preserved c = fields_go_on c.args.bytes.now c.args.fields.now c.loop-field.field-index _ _ c.loop-field-test.true c.if-bytes-end.false c.if-not-field.false c.loop-field.invariant

pub returns : goal.returns
returns c = fields_end c.args.bytes.now c.args.fields.now c.loop-field.field-index _ c.loop-field-test.false c.loop-field.invariant
