use Rattle.std.proofs.Common.{◌≡◌, take, map}
use Rattle.std.specs.List.{flat_map}
use Rattle.bcj_object_rules.specs.Objects.{class_tab}
use Rattle.bcj_object.specs.function.Views.{placed_in}
use Rattle.bcj_object.proofs.parts.tables.Given as goal

abbrev pub invariant-loop-p : goal.invariant-loop-p
invariant-loop-p l = l.all.items ≡ flat_map class_tab (map placed_in (take l.p-index l.placed))
