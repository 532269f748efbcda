use Rattle.std.proofs.Common.{◌≡◌, ◌++◌, take}
use Rattle.bcj_elf.specs.Spelling as elf
use Rattle.bcj_linker.proofs.memory.put_words.Given as goal

abbrev pub invariant-loop-word : goal.invariant-loop-word
invariant-loop-word l = l.out.items ≡ l.initial.out.items ++ elf.words (take l.word-index l.words)
