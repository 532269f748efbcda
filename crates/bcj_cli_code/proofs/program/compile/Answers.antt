use Rattle.std.proofs.Common.{◌∙◌}
use Rattle.bcj_cli_language.specs.Plain.{acts_of}
use Rattle.bcj_cli_code.proofs.Theorem.{program_in_range, counted_short, counted_long}
use Rattle.bcj_cli_code.proofs.program.compile.Goals as goal

pub encoded-requires : goal.encoded-requires
encoded-requires c = program_in_range (acts_of c.args.body.now) _ c.requires (c.is_too_long.ensures.short c.if-is_too_long.false) (c.as_slice.ensures.value ∙ c.in_ok-code.ensures)

pub returns-then-is_too_long-clause-too_long : goal.returns-then-is_too_long-clause-too_long
returns-then-is_too_long-clause-too_long c = λ _. counted_long (acts_of c.args.body.now) (c.is_too_long.ensures.long c.if-is_too_long.true)

pub returns-clause-short : goal.returns-clause-short
returns-clause-short c = counted_short (acts_of c.args.body.now) (c.is_too_long.ensures.short c.if-is_too_long.false)
