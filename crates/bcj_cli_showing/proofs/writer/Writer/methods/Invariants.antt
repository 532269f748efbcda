use Rattle.std.proofs.Common.{◌≡◌, ◌++◌, take, flat_map}
use Rattle.bcj_cli_showing.specs.Lines.{method_line}
use Rattle.bcj_cli_showing.proofs.writer.Writer.methods.Given as goal

abbrev pub invariant-loop-method : goal.invariant-loop-method
invariant-loop-method l = l.self ≡ l.initial.self ++ flat_map method_line (take l.method-index l.methods)
