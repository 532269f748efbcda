use Rattle.std.proofs.Common.{◌≡◌, ◌++◌, take}
use Rattle.bcj_cli_showing.specs.Lines.{itable_line}
use Rattle.bcj_cli_showing.specs.Text.{numbered}
use Rattle.bcj_cli_showing.proofs.writer.Writer.itable.Given as goal

abbrev pub invariant-loop-at : goal.invariant-loop-at
invariant-loop-at l = l.self ≡ l.initial.self ++ numbered itable_line 0 (take l.at l.entries)
