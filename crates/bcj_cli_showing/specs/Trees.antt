-- Heads that have a tree.
use Rattle.std.specs.Prelude.{List}
use Rattle.bcj_symbolic_trees.specs.declared.class_tree.ClassHead.{ClassHead}
use Rattle.bcj_hier_rules.specs.Heads.{AreDistinct, IsRooted}

-- no name stands twice, and Object stands first
pub record HaveTree (heads : List ClassHead) : Type 0 where
  pub rooted : IsRooted heads
  pub distinct : AreDistinct heads
