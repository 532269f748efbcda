use Rattle.std.proofs.Common.{◌≡◌, ◌++◌, take, flat_map}
use Rattle.bcj_cli_showing.specs.Text.{record_lines}
use Rattle.bcj_cli_showing.proofs.writer.Writer.records.Given as goal

abbrev pub invariant-loop-record : goal.invariant-loop-record
invariant-loop-record l = l.self ≡ l.initial.self ++ flat_map record_lines (take l.record-index l.records)
