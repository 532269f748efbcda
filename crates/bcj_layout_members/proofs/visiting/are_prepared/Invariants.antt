use Rattle.std.proofs.Common.{◌≡◌, ◌<◌, ℕ, Some}
use Rattle.std.specs.List.{slice_get}
use Rattle.bcj_hier_rules.specs.Shapes.{Named}
use Rattle.bcj_layout_members.specs.Tables.{IsPrepared}
use Rattle.bcj_layout_members.proofs.visiting.are_prepared.Given as goal

abbrev pub invariant-loop-name : goal.invariant-loop-name
invariant-loop-name l = (k : ℕ) (name : Named) → k < l.name-index → slice_get l.names k ≡ Some name → IsPrepared l.classes l.rows name
