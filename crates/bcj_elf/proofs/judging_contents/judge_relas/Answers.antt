use Rattle.std.proofs.Common.{arith}
use Rattle.bcj_elf.specs.Places.{rela_fields}
use Rattle.bcj_elf.proofs.FirstBad.{exit, firsts}
use Rattle.bcj_elf.proofs.judging_contents.judge_relas.Goals as goal

pub returns-in_err-judge_relocations : goal.returns-in_err-judge_relocations
unfolding rela_fields
returns-in_err-judge_relocations c = exit _ _ _ c.from_residual.ensures.1 (grind (arith, firsts))

pub returns : goal.returns
unfolding rela_fields
returns c = grind (arith, firsts)
