use Rattle.std.proofs.Common.{◌≡◌, ◌≤◌, take, length}
use Rattle.bcj_hier_rules.specs.Heads.{name_of}
use Rattle.bcj_layout_rules.specs.Rows.{mixture_of, highest, highest_from}
use Rattle.bcj_layout_resolution.specs.Places.{heads_in}
use Rattle.bcj_layout_rows.specs.Found.{selectors_in}
use Rattle.bcj_layout_rows.proofs.selector_table.Selectors.highest.Given as goal

abbrev pub invariant-loop-count : goal.invariant-loop-count
invariant-loop-count l = record {
  within : l.count ≤ length (selectors_in l.self);
  left : highest_from (mixture_of l.resolver) (name_of (heads_in l.resolver) l.class) 1 (take l.count (selectors_in l.self)) ≡ highest l.resolver (name_of (heads_in l.resolver) l.class);
}

abbrev pub decreases-loop-count : goal.decreases-loop-count
decreases-loop-count l = l.count
