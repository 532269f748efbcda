use Rattle.std.proofs.Common.{◌≡◌, map, drop}
use Rattle.std.specs.List.{fold}
use Rattle.bcj_layout_rules.specs.Rows.{mixture_of, with_class, selectors}
use Rattle.bcj_layout_rows.specs.Keys.{reference_in}
use Rattle.bcj_layout_rows.proofs.selector_table.Selectors.gather.Given as goal

abbrev pub invariant-loop-k : goal.invariant-loop-k
invariant-loop-k l = fold (with_class (mixture_of l.resolver)) (map reference_in l.references.keys) (drop l.k l.resolver) ≡ selectors l.resolver
