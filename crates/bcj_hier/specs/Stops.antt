-- When a list of heads is refused.
use Rattle.std.specs.Prelude.{◌≡◌, ◌<◌, ℕ, length, List, ⊤}
use Rattle.bcj_symbolic_trees.specs.declared.class_tree.ClassHead.{ClassHead}
use Rattle.bcj_hier_rules.specs.Shapes.{Named}
use Rattle.bcj_hier_rules.specs.Heads.{AreDistinct, IsFirstRepeat, max_types}
use Rattle.bcj_hier.specs.declared.stop.HierStop.{HierStop}
use Rattle.bcj_hier.specs.declared.stop.HierStop.TheVariants.{Duplicate, TooMany, NoMemory}

abbrev pub IsStop : List ClassHead → HierStop → Type 0
IsStop heads (Duplicate name first second) = IsFirstRepeat heads first second name
IsStop heads TooMany = AreDistinct heads × (max_types < length heads)
IsStop heads NoMemory = ⊤

-- a refusal of these numbers, where they fit
abbrev pub IsDuplicate : Named → ℕ → ℕ → HierStop → Type 0
IsDuplicate called earlier later (Duplicate name first second) = (name ≡ called) × (first ≡ earlier) × (second ≡ later)
IsDuplicate called earlier later TooMany = ⊥
IsDuplicate called earlier later NoMemory = ⊤
