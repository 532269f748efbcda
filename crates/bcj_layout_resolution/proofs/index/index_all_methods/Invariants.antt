use Rattle.std.proofs.Common.{◌≡◌, ◌<◌, ℕ, Some, [], map, slice_get, get_or, length}
use Rattle.bcj_tables_rules.specs.declared.records.ClassRecord.{ClassRecord}
use Rattle.bcj_hier_rules.specs.Shapes.{behind_first}
use Rattle.bcj_layout_resolution.specs.Index.{Indexes}
use Rattle.bcj_layout_resolution.proofs.index.index_all_methods.Given as goal

abbrev pub invariant-loop-class : goal.invariant-loop-class
invariant-loop-class l = record {
  count : length l.all ≡ l.class-index;
  each : (k : ℕ) (r : ClassRecord) → k < l.class-index → slice_get l.classes k ≡ Some r → Indexes (map (λ m. m.name) (behind_first r.methods)) (get_or l.all k []);
}
