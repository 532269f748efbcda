use Rattle.std.proofs.Common.{arith}
use Rattle.bcj_elf.specs.Layout.{headers}
use Rattle.bcj_elf.proofs.FirstBad.{exit, firsts}
use Rattle.bcj_elf.proofs.judging_headers.judge_loaded.Goals as goal

pub returns-in_err-judge_section-clause-place : goal.returns-in_err-judge_section-clause-place
unfolding headers
returns-in_err-judge_section-clause-place c = exit _ _ _ c.from_residual.ensures.1 (grind (arith, firsts))

pub returns-in_err-judge_section-2-clause-place : goal.returns-in_err-judge_section-2-clause-place
unfolding headers
returns-in_err-judge_section-2-clause-place c = exit _ _ _ c.from_residual-in_err-judge_section-2.ensures.1 (grind (arith, firsts))

pub returns-in_err-judge_section-3-clause-place : goal.returns-in_err-judge_section-3-clause-place
unfolding headers
returns-in_err-judge_section-3-clause-place c = exit _ _ _ c.from_residual-in_err-judge_section-3.ensures.1 (grind (arith, firsts))

pub returns-in_err-judge_section-4-clause-place : goal.returns-in_err-judge_section-4-clause-place
unfolding headers
returns-in_err-judge_section-4-clause-place c = exit _ _ _ c.from_residual-in_err-judge_section-4.ensures.1 (grind (arith, firsts))

pub returns-clause-place : goal.returns-clause-place
unfolding headers
returns-clause-place c = grind (arith, firsts)
