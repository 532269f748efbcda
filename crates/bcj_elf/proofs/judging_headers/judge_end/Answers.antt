use Rattle.std.proofs.Common.{rules}
use Rattle.bcj_elf.specs.Places.{end_fields}
use Rattle.bcj_elf.proofs.FirstBad.{on_ok}
use Rattle.bcj_elf.proofs.Good.{end_is}
use Rattle.bcj_elf.proofs.judging_headers.judge_end.Goals as goal

pub returns-clause-ends : goal.returns-clause-ends
unfolding end_fields
returns-clause-ends c = on_ok _ c.judge.result _ (search rules) (end_is c.args.bytes.now c.args.shoff c.args.s.now)
