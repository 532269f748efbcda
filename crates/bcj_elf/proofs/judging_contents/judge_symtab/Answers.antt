use Rattle.std.proofs.Common.{arith}
use Rattle.bcj_elf.specs.Places.{symtab_fields}
use Rattle.bcj_elf.specs.function.Judging.{plain_turn}
use Rattle.bcj_elf.proofs.FirstBad.{exit, firsts}
use Rattle.bcj_elf.proofs.judging_contents.judge_symtab.Goals as goal

pub returns-in_err-judge_null : goal.returns-in_err-judge_null
unfolding symtab_fields
returns-in_err-judge_null c = exit _ _ _ c.from_residual.ensures.1 (grind (arith, firsts))

pub returns : goal.returns
unfolding symtab_fields plain_turn
returns c = grind (arith, firsts)
