use Rattle.std.proofs.Common.{arith}
use Rattle.bcj_elf.specs.Places.{fields}
use Rattle.bcj_elf.proofs.FirstBad.{exit, firsts}
use Rattle.bcj_elf.proofs.judging.judge_file.Goals as goal

pub returns-in_err-shoff : goal.returns-in_err-shoff
unfolding fields
returns-in_err-shoff c = exit _ _ _ c.from_residual.ensures.1 (grind (arith, firsts))

pub returns-in_err-judge_section_headers : goal.returns-in_err-judge_section_headers
unfolding fields
returns-in_err-judge_section_headers c = exit _ _ _ c.from_residual-in_err-judge_section_headers.ensures.1 (grind (arith, firsts))

pub returns : goal.returns
unfolding fields
returns c = grind (arith, firsts)
