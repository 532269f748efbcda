use Rattle.std.proofs.Common.{◌≡◌, ℕ, List, Some, slice_get, length}
use Rattle.bcj_tables_rules.specs.declared.records.ClassRecord.{ClassRecord}
use Rattle.bcj_layout_entries.specs.declared.entries.Entry.{Entry}
use Rattle.bcj_layout_entries.specs.Entries.{AreEntries}
use Rattle.bcj_layout_entries.proofs.entries.all_entries.Given as goal

abbrev pub invariant-loop-k : goal.invariant-loop-k
invariant-loop-k l = record {
  count : length l.all ≡ l.k;
  each : (i : ℕ) (c : ClassRecord) (es : List Entry) → slice_get l.parts.resolver.now i ≡ Some c → slice_get l.all i ≡ Some es → AreEntries l.parts.resolver.now l.parts.main.now c es;
}
