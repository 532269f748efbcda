use Rattle.std.proofs.Common.{◌≡◌, ◌≤◌, ◌++◌, length, map, filter, take, drop}
use Rattle.bcj_symbolic_trees.specs.Types.{class_type}
use Rattle.bcj_hier_rules.specs.Trees as tree
use Rattle.bcj_layout_rules.specs.Rows.{mixture_of, row_number}
use Rattle.bcj_layout_rows.proofs.loading.class_rows.Given as goal

abbrev pub invariant-loop-k : goal.invariant-loop-k
invariant-loop-k l =
    let cs = l.resolver in
    record {
      next : l.next ≡ length (filter (tree.loads (mixture_of cs)) (map (λ c. c.head.name) (take l.k cs)));
      few : l.next ≤ l.k;
      rows : l.rows ++ map (λ c. row_number cs (class_type c.head.name)) (drop l.k cs) ≡ map (λ c. row_number cs (class_type c.head.name)) cs;
    }
