use Rattle.std.proofs.Common.{arith}
use Rattle.bcj_elf.proofs.FirstBad.{exit, firsts}
use Rattle.bcj_elf.proofs.Good.{section_headers_halves}
use Rattle.bcj_elf.proofs.judging_headers.judge_section_headers.Goals as goal

pub returns-in_err-judge_loaded-clause-place : goal.returns-in_err-judge_loaded-clause-place
returns-in_err-judge_loaded-clause-place c = exit _ _ _ c.from_residual.ensures.1 (rw (section_headers_halves c.args.bytes.now c.args.shoff c.args.s.now) (grind (arith, firsts)))

pub returns-in_err-judge_others-clause-place : goal.returns-in_err-judge_others-clause-place
returns-in_err-judge_others-clause-place c = exit _ _ _ c.from_residual-in_err-judge_others.ensures.1 (rw (section_headers_halves c.args.bytes.now c.args.shoff c.args.s.now) (grind (arith, firsts)))

pub returns-clause-place : goal.returns-clause-place
returns-clause-place c = rw (section_headers_halves c.args.bytes.now c.args.shoff c.args.s.now) (grind (arith, firsts))
