use Rattle.std.proofs.Common.{◌≡◌, take, map}
use Rattle.std.specs.List.{flat_map}
use Rattle.bcj_elf.specs.Plain.{plain_symbols}
use Rattle.bcj_object_rules.specs.Objects.{class_symbols}
use Rattle.bcj_object.specs.function.Views.{placed_in}
use Rattle.bcj_object.proofs.symbols.symbols.Given as goal

abbrev pub invariant-loop-p : goal.invariant-loop-p
invariant-loop-p l = plain_symbols l.all.items ≡ flat_map class_symbols (map placed_in (take l.p-index l.placed))
