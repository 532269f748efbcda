use Rattle.std.proofs.Common.{◌≡◌, ◌++◌, take, flat_map}
use Rattle.bcj_cli_showing.specs.Lines.{range_line}
use Rattle.bcj_cli_showing.proofs.writer.Writer.ranges.Given as goal

abbrev pub invariant-loop-range : goal.invariant-loop-range
invariant-loop-range l = l.self ≡ l.initial.self ++ flat_map range_line (take l.range-index l.ranges)
