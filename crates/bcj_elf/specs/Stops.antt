-- What a refusal says.
use Rattle.std.specs.Prelude.{ℕ, List}
use Rattle.bcj_elf.specs.declared.stop.ElfStop.{ElfStop}
use Rattle.bcj_elf.specs.declared.stop.ElfStop.TheVariants.{Bad, NoMemory}
use Rattle.bcj_elf.specs.Places.{IsFirstBad}

-- a bad field is the first bad one
abbrev pub IsBadAt : List ℕ → ElfStop → Type 0
IsBadAt bytes (Bad at what) = IsFirstBad bytes at what.now
IsBadAt bytes NoMemory = Unit {0}
