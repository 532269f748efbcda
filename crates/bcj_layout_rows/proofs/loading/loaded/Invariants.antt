use Rattle.std.proofs.Common.{◌≡◌, ◌++◌, ◌≤◌, length, map, filter, drop}
use Rattle.std.specs.List.{AllByRecursion}
use Rattle.bcj_hier_rules.specs.Heads.{name_of}
use Rattle.bcj_hier_rules.specs.Trees as tree
use Rattle.bcj_layout_rules.specs.Rows.{mixture_of, loaded}
use Rattle.bcj_layout_resolution.specs.Places.{heads_in}
use Rattle.bcj_layout_rows.specs.Found.{IsLoading}
use Rattle.bcj_layout_rows.proofs.loading.loaded.Given as goal

abbrev pub invariant-loop-k : goal.invariant-loop-k
invariant-loop-k l = record {
  names : map (name_of (heads_in l.resolver)) l.ids ++ filter (tree.loads (mixture_of l.resolver)) (map (λ c. c.head.name) (drop l.k l.resolver)) ≡ loaded l.resolver;
  loading : AllByRecursion (IsLoading l.resolver) l.ids;
  few : length l.ids ≤ l.k;
}
