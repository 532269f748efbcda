use Rattle.std.proofs.Common.{◌≡◌, ◌++◌, take}
use Rattle.std.specs.List.{flat_map}
use Rattle.bcj_tables_rules.specs.Spelling.{field_bytes}
use Rattle.bcj_tables.proofs.writing.put_fields.Given as goal

abbrev pub invariant-loop-f : goal.invariant-loop-f
invariant-loop-f l = l.out.items ≡ l.initial.out.items ++ flat_map field_bytes (take l.f-index l.fields)
