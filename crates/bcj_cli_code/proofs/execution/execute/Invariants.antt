use Rattle.std.proofs.Common.{◌-◌}
use Rattle.bcj_cli_code.specs.Correct.{limit, start_state}
use Rattle.bcj_cli_code.proofs.Advance.{Left}
use Rattle.bcj_cli_code.proofs.execution.execute.Given as goal

abbrev pub invariant-loop-taken : goal.invariant-loop-taken
invariant-loop-taken l = Left (limit l.words l.turns) (start_state l.words l.turns) (limit l.words l.turns - l._taken) l.machine l.out.items
