-- The text of `show`: the tree of the classes that load, the class records of an object, and the words of its code.
use Rattle.std.specs.Prelude.{ℕ, suc, ◌+◌, List, [], ◌∷◌, ◌++◌, map}
use Rattle.std.specs.List.{flat_map}
use Rattle.std.specs.Int.{w32, from_le_bytes}
use Rattle.bcj_symbolic_trees.specs.declared.class_tree.ClassHead.{ClassHead}
use Rattle.bcj_hier_rules.specs.Shapes.{Mixture}
use Rattle.bcj_hier_rules.specs.Trees.{preorder}
use Rattle.bcj_hier_rules.specs.Heads.{of_heads}
use Rattle.bcj_tables_rules.specs.declared.records.ClassRecord.{ClassRecord}
use Rattle.bcj_cli_showing.specs.Lines.{tree_line, class_line, field_line, method_line, range_line, pair_line, ctable_line, otable_line, atable_line, itable_line, word_line}

-- the classes that load, in preorder
unfoldable pub tree_lines : Mixture → List ℕ
tree_lines m = flat_map (tree_line m) (preorder m)

-- the lines of a list's items with their numbers, the first of which has this one
unfoldable pub numbered : {A : Type 0} → (ℕ → A → List ℕ) → ℕ → List A → List ℕ
numbered f at [] = []
numbered f at (x ∷ xs) = f at x ++ numbered f (suc at) xs

unfoldable pub table_lines : ClassRecord → List ℕ
table_lines c = numbered ctable_line 0 c.ctable ++ (numbered otable_line 0 c.otable ++ (numbered atable_line 0 c.atable ++ numbered itable_line 0 c.itable))

unfoldable pub record_lines : ClassRecord → List ℕ
record_lines c =
    class_line c.head.name
    ++ (flat_map field_line c.fields
    ++ (flat_map method_line c.methods
    ++ (flat_map range_line c.ranges
    ++ (flat_map pair_line c.pairs
    ++ table_lines c))))

-- the little-endian words of a text section with their offsets, the first of which is this one
unfoldable pub word_lines : ℕ → List ℕ → List ℕ
word_lines at (a ∷ b ∷ c ∷ d ∷ rest) = word_line at (from_le_bytes w32 (a ∷ b ∷ c ∷ d ∷ [])) ++ word_lines (at + 4) rest
word_lines at _ = []

-- of the heads of boot and of an object, with the records of the object and its text section
unfoldable pub show_text : List ClassHead → List ClassRecord → List ℕ → List ℕ
show_text heads own text = tree_lines (of_heads heads) ++ (flat_map record_lines own ++ word_lines 0 text)

-- the heads of class records
abbrev pub heads_of_records : List ClassRecord → List ClassHead
heads_of_records cs = map (λ c. c.head) cs
