use Rattle.std.proofs.Common.{◌≡◌, ◌+◌, take, min}
use Rattle.bcj_cli_language.specs.Bounds.{max_turns}
use Rattle.bcj_cli.specs.Command.{numeral_value}
use Rattle.bcj_cli.proofs.command.value.Given as goal

abbrev pub invariant-loop-digit : goal.invariant-loop-digit
invariant-loop-digit l = l.value ≡ min (numeral_value (take l.digit-index l.digits)) (max_turns + 1)
