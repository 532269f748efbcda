-- What a hierarchy keeps beside its heads.
use Rattle.std.specs.Prelude.{◌≡◌, ◌≤◌, ℕ, List, length, slice_get, Option, None, Some}
use Rattle.bcj_symbolic_trees.specs.declared.class_tree.ClassHead.{ClassHead}
use Rattle.bcj_hier_rules.specs.declared.link_error.LinkError.{LinkError}
use Rattle.bcj_hier_rules.specs.Shapes.{Named}
use Rattle.bcj_hier_rules.specs.Heads.{AreDistinct, IsRooted, max_types}
use Rattle.bcj_hier.specs.declared.parts.Part.{Part}
use Rattle.bcj_hier.specs.declared.rows.Row.{Row}
use Rattle.bcj_hier.specs.Numbers.{names_of, all_parts}
use Rattle.bcj_hier.specs.Loads.{IsLoaded}
use Rattle.bcj_hier.specs.Walks.{IsTree}

pub record IsOf (heads : List ClassHead) (names : List Named) (parts : List (List Part)) (errors : List (Option LinkError)) (rows : List Row) (order lows highs : List ℕ) : Type 0 where
  pub rooted : IsRooted heads
  pub distinct : AreDistinct heads
  pub few : length heads ≤ max_types
  pub named : names ≡ names_of heads
  pub parted : parts ≡ all_parts heads
  pub loaded : IsLoaded heads errors rows
  pub numbered : IsTree heads order lows highs

abbrev pub superclass_at : List ClassHead → ℕ → Option Named
superclass_at heads k = elim (slice_get heads k) [ None ↦ None | Some h ↦ h.superclass ]
