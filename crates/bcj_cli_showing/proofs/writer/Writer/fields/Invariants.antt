use Rattle.std.proofs.Common.{◌≡◌, ◌++◌, take, flat_map}
use Rattle.bcj_cli_showing.specs.Lines.{field_line}
use Rattle.bcj_cli_showing.proofs.writer.Writer.fields.Given as goal

abbrev pub invariant-loop-field : goal.invariant-loop-field
invariant-loop-field l = l.self ≡ l.initial.self ++ flat_map field_line (take l.field-index l.fields)
