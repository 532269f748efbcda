use Rattle.std.proofs.Common.{arith}
use Rattle.bcj_elf.specs.Places.{class_fields, entry_fields}
use Rattle.bcj_elf.specs.function.Judging.{plain_turn}
use Rattle.bcj_elf.proofs.FirstBad.{exit, firsts}
use Rattle.bcj_elf.proofs.judging_contents.judge_class.Goals as goal

pub returns-in_err-judge_symbol-clause-place : goal.returns-in_err-judge_symbol-clause-place
unfolding class_fields entry_fields plain_turn
returns-in_err-judge_symbol-clause-place c = exit _ _ _ c.from_residual.ensures.1 (grind (arith, firsts))

pub returns-clause-place : goal.returns-clause-place
unfolding class_fields entry_fields plain_turn
returns-clause-place c = grind (arith, firsts)
