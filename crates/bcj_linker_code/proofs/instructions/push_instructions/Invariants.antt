use Rattle.std.proofs.Common.{◌≡◌, ◌++◌, take}
use Rattle.bcj_linker_code.specs.Instructions.{encoded}
use Rattle.bcj_linker_code.proofs.instructions.push_instructions.Given as goal

abbrev pub invariant-loop-instruction : goal.invariant-loop-instruction
invariant-loop-instruction l = l.words ≡ l.initial.words ++ encoded (take l.instruction-index l.instructions)
