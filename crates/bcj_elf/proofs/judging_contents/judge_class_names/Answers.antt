use Rattle.std.proofs.Common.{rules}
use Rattle.bcj_elf.specs.Places.{class_name_fields}
use Rattle.bcj_elf.proofs.FirstBad.{on_ok}
use Rattle.bcj_elf.proofs.Good.{class_names_end}
use Rattle.bcj_elf.proofs.judging_contents.judge_class_names.Goals as goal

pub returns-clause-place : goal.returns-clause-place
unfolding class_name_fields
returns-clause-place c = search rules

pub returns-clause-code : goal.returns-clause-code
returns-clause-code c = on_ok _ c.judge.result _ (returns-clause-place c) (λ e. (class_names_end c.args.bytes.now c.args.at c.args.left.now e).0)

pub returns-clause-tables : goal.returns-clause-tables
returns-clause-tables c = on_ok _ c.judge.result _ (returns-clause-place c) (λ e. (class_names_end c.args.bytes.now c.args.at c.args.left.now e).1)
