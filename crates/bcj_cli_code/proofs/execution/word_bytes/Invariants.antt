use Rattle.std.proofs.Common.{◌≡◌, take}
use Rattle.std.specs.Prelude.{flat_map}
use Rattle.byteorder.specs.Endian.{little_bytes}
use Rattle.bcj_cli_code.proofs.execution.word_bytes.Given as goal

abbrev pub invariant-loop-word : goal.invariant-loop-word
invariant-loop-word l = l.bytes.items ≡ flat_map (λ w. little_bytes 4 w) (take l.word-index l.words)
