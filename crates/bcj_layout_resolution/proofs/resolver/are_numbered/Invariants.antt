use Rattle.std.proofs.Common.{◌≡◌, ◌<◌, ℕ, Some, slice_get}
use Rattle.bcj_tables_rules.specs.declared.records.ClassRecord.{ClassRecord}
use Rattle.bcj_layout_resolution.specs.Searches.{IsNumbered}
use Rattle.bcj_layout_resolution.proofs.resolver.are_numbered.Given as goal

abbrev pub invariant-loop-class : goal.invariant-loop-class
invariant-loop-class l = (k : ℕ) (r : ClassRecord) → k < l.class-index → slice_get l.classes k ≡ Some r → IsNumbered r
