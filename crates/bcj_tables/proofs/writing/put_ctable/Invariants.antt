use Rattle.std.proofs.Common.{◌≡◌, ◌++◌, take}
use Rattle.std.specs.List.{flat_map}
use Rattle.bcj_tables_rules.specs.Spelling.{centry_bytes}
use Rattle.bcj_tables.proofs.writing.put_ctable.Given as goal

abbrev pub invariant-loop-e : goal.invariant-loop-e
invariant-loop-e l = l.out.items ≡ l.initial.out.items ++ flat_map centry_bytes (take l.e-index l.entries)
