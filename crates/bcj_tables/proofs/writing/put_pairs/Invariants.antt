use Rattle.std.proofs.Common.{◌≡◌, ◌++◌, take}
use Rattle.std.specs.List.{flat_map}
use Rattle.bcj_tables_rules.specs.Spelling.{pair_bytes}
use Rattle.bcj_tables.proofs.writing.put_pairs.Given as goal

abbrev pub invariant-loop-p : goal.invariant-loop-p
invariant-loop-p l = l.out.items ≡ l.initial.out.items ++ flat_map pair_bytes (take l.p-index l.pairs)
