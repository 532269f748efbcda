use Rattle.std.proofs.Common.{◌≡◌, ◌<◌, ◌&&◌, ◌||◌, ◌==◌, ℕ, drop}
use Rattle.std.specs.List.{list_any}
use Rattle.bcj_hier.specs.Rows.{has, part_has}
use Rattle.bcj_hier.proofs.loading.row_of.Given as goal

abbrev pub invariant-loop-part : goal.invariant-loop-part
invariant-loop-part l = (i : ℕ) → i < 4096 → (has l.row i || list_any (part_has l.rows i) (drop l.part-index l.parts)) ≡ (l.interface && i == l.number || list_any (part_has l.rows i) l.parts)
