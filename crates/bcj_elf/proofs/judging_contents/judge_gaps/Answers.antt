use Rattle.std.proofs.Common.{arith}
use Rattle.bcj_elf.specs.Places.{gap_fields}
use Rattle.bcj_elf.proofs.FirstBad.{exit, firsts}
use Rattle.bcj_elf.proofs.judging_contents.judge_gaps.Goals as goal

pub returns-in_err-judge_padding : goal.returns-in_err-judge_padding
unfolding gap_fields
returns-in_err-judge_padding c = exit _ _ _ c.from_residual.ensures.1 (grind (arith, firsts))

pub returns : goal.returns
unfolding gap_fields
returns c = grind (arith, firsts)
