use Rattle.std.proofs.Common.{◌≡◌, take, map}
use Rattle.bcj_object_rules.specs.Objects.{tab_relocation}
use Rattle.bcj_object.specs.function.Views.{placed_in}
use Rattle.bcj_object.proofs.relocations.tab_relocations.Given as goal

abbrev pub invariant-loop-p : goal.invariant-loop-p
invariant-loop-p l = l.all.items ≡ map tab_relocation (map placed_in (take l.p-index l.placed))
