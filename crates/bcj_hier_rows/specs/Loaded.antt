-- The types of a mixture of which everything may be asked.
use Rattle.std.specs.Prelude.{◌≡◌, List, None}
use Rattle.bcj_symbolic_trees.specs.declared.class_tree.ClassHead.{ClassHead}
use Rattle.bcj_hier_rules.specs.declared.class_id.ClassId.{ClassId}
use Rattle.bcj_hier_rules.specs.Heads.{of_heads, IsIn, name_of}
use Rattle.bcj_hier_rules.specs.Loading.{load_error}

abbrev pub IsLoaded : List ClassHead → ClassId → Type 0
IsLoaded heads c = IsIn heads c × (load_error (of_heads heads) (name_of heads c) ≡ None)
