use Rattle.std.proofs.Common.{arith}
use Rattle.bcj_elf.specs.Places.{contents_fields}
use Rattle.bcj_elf.proofs.FirstBad.{exit, firsts}
use Rattle.bcj_elf.proofs.judging_contents.judge_contents.Goals as goal

pub returns-in_err-judge_gaps : goal.returns-in_err-judge_gaps
unfolding contents_fields
returns-in_err-judge_gaps c = exit _ _ _ c.from_residual.ensures.1 (grind (arith, firsts))

pub returns-in_err-judge_section_names : goal.returns-in_err-judge_section_names
unfolding contents_fields
returns-in_err-judge_section_names c = exit _ _ _ c.from_residual-in_err-judge_section_names.ensures.1 (grind (arith, firsts))

pub returns-in_err-judge_strtab : goal.returns-in_err-judge_strtab
unfolding contents_fields
returns-in_err-judge_strtab c = exit _ _ _ c.from_residual-in_err-judge_strtab.ensures.1 (grind (arith, firsts))

pub returns-in_err-judge_symtab : goal.returns-in_err-judge_symtab
unfolding contents_fields
returns-in_err-judge_symtab c = exit _ _ _ c.from_residual-in_err-judge_symtab.ensures.1 (grind (arith, firsts))

pub returns : goal.returns
unfolding contents_fields
returns c = grind (arith, firsts)
