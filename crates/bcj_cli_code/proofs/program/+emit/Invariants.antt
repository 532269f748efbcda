use Rattle.std.proofs.Common.{drop}
use Rattle.bcj_cli_language.specs.Plain.{acts_of}
use Rattle.bcj_cli_code.proofs.Emitting.{Progress}
use Rattle.bcj_cli_code.proofs.program.+emit.Given as goal

abbrev pub invariant-put_block-loop-s : goal.invariant-put_block-loop-s
invariant-put_block-loop-s l = Progress l.fn.code.items l.fn.scope (acts_of l.block) l.code.items l.scope (acts_of (drop l.s-index l.block))
