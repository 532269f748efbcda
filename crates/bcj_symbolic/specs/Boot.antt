-- The boot unit passes `check`.
use Rattle.bcj_symbolic_boot.specs.BootUnit.{boot_unit}
use Rattle.bcj_symbolic_check.specs.Classes.{IsWellTyped}

-- each of its nodes has a rule
abbrev pub BootIsWellTyped : Type 0
BootIsWellTyped = IsWellTyped boot_unit
