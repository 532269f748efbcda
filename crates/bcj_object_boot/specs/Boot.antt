-- The object of the boot unit.
use Rattle.std.specs.Prelude.{ℕ, List}
use Rattle.bcj_symbolic_boot.specs.BootUnit.{boot_unit}
use Rattle.bcj_object_rules.specs.Objects.{object}
use Rattle.bcj_hier_rules.specs.Heads.{IsRooted}
use Rattle.bcj_linker_rules.specs.Memory.{Linked}
use Rattle.bcj_linker_objects.specs.Objects.{IsLinked}
use Rattle.bcj_linker_objects.specs.Names.{heads_in}

unfoldable pub boot_object : List ℕ
boot_object = object boot_unit

-- an object whose first class is Object, without superclass
abbrev pub IsRootedObject : List ℕ → Type 0
IsRootedObject bytes = (l : Linked) × (IsLinked bytes l × IsRooted (heads_in l.classes))
