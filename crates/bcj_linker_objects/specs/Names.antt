-- The classes of objects, and which object has a name first.
use Rattle.std.specs.Prelude.{ℕ, Bool, List, map, Option}
use Rattle.std.specs.List.{list_any, position}
use Rattle.bcj_symbolic_trees.specs.declared.class_tree.ClassHead.{ClassHead}
use Rattle.bcj_hier_rules.specs.Shapes.{Named}
use Rattle.bcj_hier_rules.specs.Heads.{is_called}
use Rattle.bcj_layout_rules.specs.Rows.{Classes}
use Rattle.bcj_linker_rules.specs.Memory.{Linked}

abbrev pub heads_in : Classes → List ClassHead
heads_in cs = map (λ c. c.head) cs

abbrev pub has_name : Named → Classes → Bool
has_name name cs = list_any (is_called name) (heads_in cs)

abbrev pub classes_each : List Linked → List Classes
classes_each ls = map (λ l. l.classes) ls

-- the number of the first of these with a class of the name
abbrev pub owner : List Classes → Named → Option ℕ
owner each name = position (has_name name) each
