use Rattle.std.proofs.Common.{◌≡◌, ◌++◌, take}
use Rattle.bcj_cli_showing.specs.Lines.{atable_line}
use Rattle.bcj_cli_showing.specs.Text.{numbered}
use Rattle.bcj_cli_showing.proofs.writer.Writer.atable.Given as goal

abbrev pub invariant-loop-at : goal.invariant-loop-at
invariant-loop-at l = l.self ≡ l.initial.self ++ numbered atable_line 0 (take l.at l.entries)
