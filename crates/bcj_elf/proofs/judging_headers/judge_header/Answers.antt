use Rattle.std.proofs.Common.{◌+◌, ap, ◌∙◌, ℕ}
use Rattle.bcj_elf.specs.Layout.{section_headers_size}
use Rattle.bcj_elf.proofs.FirstBad.{exit}
use Rattle.bcj_elf.proofs.Good.{header_ends_file}
use Rattle.bcj_elf.proofs.judging_headers.judge_header.Goals as goal

pub returns-in_err-judge_file_header-clause-place : goal.returns-in_err-judge_file_header-clause-place
returns-in_err-judge_file_header-clause-place c = exit _ _ _ c.from_residual.ensures.1 c.in_err-judge_file_header.ensures

pub returns-clause-ends : goal.returns-clause-ends
returns-clause-ends c = let file = header_ends_file c.args.bytes.now c.in_ok-judge_file_header.ensures in ap (λ (n : ℕ). n + section_headers_size) c.word.ensures ∙ file.ends

pub returns-clause-small : goal.returns-clause-small
returns-clause-small c = let file = header_ends_file c.args.bytes.now c.in_ok-judge_file_header.ensures in file.small
