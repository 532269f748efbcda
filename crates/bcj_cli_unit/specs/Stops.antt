-- What an error of `convert` says.
use Rattle.std.specs.Prelude.{◌≡◌, ℕ, Option, Some}
use Rattle.bcj_cli_unit.specs.declared.stop.UnitStop.{UnitStop}
use Rattle.bcj_cli_unit.specs.declared.stop.UnitStop.TheVariants.{NotBuilt, NoMemory}

-- where the first node is that is lacking, or nothing for want of memory
abbrev pub IsLack : Option ℕ → UnitStop → Type 0
IsLack o (NotBuilt at) = o ≡ Some at
IsLack o NoMemory = Unit {0}
