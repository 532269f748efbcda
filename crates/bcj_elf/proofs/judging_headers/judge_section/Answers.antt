use Rattle.std.proofs.Common.{rules}
use Rattle.bcj_elf.specs.Places.{section_fields}
use Rattle.bcj_elf.proofs.FirstBad.{on_ok}
use Rattle.bcj_elf.proofs.Good.{section_fits}
use Rattle.bcj_elf.proofs.judging_headers.judge_section.Goals as goal

pub returns-clause-fits : goal.returns-clause-fits
unfolding section_fields
returns-clause-fits c = on_ok _ c.judge.result _ (search rules) (section_fits c.args.bytes.now c.args.shoff c.args.index c.args.h.now c.args.is_size)
