use Rattle.std.proofs.Common.{◌≡◌, map, take}
use Rattle.bcj_cli_code.specs.function.Code.{instruction_word}
use Rattle.bcj_cli_code.proofs.program.encoded.Given as goal

abbrev pub invariant-loop-i : goal.invariant-loop-i
invariant-loop-i l = l.words.items ≡ map instruction_word (take l.i-index l.code)
