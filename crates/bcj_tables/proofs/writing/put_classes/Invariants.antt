use Rattle.std.proofs.Common.{◌≡◌, ◌++◌, take}
use Rattle.std.specs.List.{flat_map}
use Rattle.bcj_tables_rules.specs.Spelling.{class_bytes}
use Rattle.bcj_tables.proofs.writing.put_classes.Given as goal

abbrev pub invariant-loop-c : goal.invariant-loop-c
invariant-loop-c l = l.out.items ≡ l.initial.out.items ++ flat_map class_bytes (take l.c-index l.classes)
