use Rattle.std.proofs.Common.{◌≡◌, ◌++◌, take, flat_map}
use Rattle.bcj_cli_showing.specs.Lines.{pair_line}
use Rattle.bcj_cli_showing.proofs.writer.Writer.pairs.Given as goal

abbrev pub invariant-loop-pair : goal.invariant-loop-pair
invariant-loop-pair l = l.self ≡ l.initial.self ++ flat_map pair_line (take l.pair-index l.pairs)
