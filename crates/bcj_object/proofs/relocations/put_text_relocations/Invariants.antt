use Rattle.std.proofs.Common.{◌≡◌, ◌++◌, take, map}
use Rattle.bcj_lower.specs.Views.{relocation_in}
use Rattle.bcj_object_rules.specs.Objects.{text_relocation}
use Rattle.bcj_object.specs.function.Views.{placed_in}
use Rattle.bcj_object.proofs.relocations.put_text_relocations.Given as goal

abbrev pub invariant-loop-r : goal.invariant-loop-r
invariant-loop-r l = l.out.items ≡ l.initial.out.items ++ map (text_relocation (placed_in l.p)) (map relocation_in (take l.r-index l.r-items))
