use Rattle.std.proofs.Common.{◌≡◌, map, drop}
use Rattle.std.specs.List.{fold}
use Rattle.bcj_hier_rules.specs.Heads.{name_of}
use Rattle.bcj_layout_rules.specs.Rows.{mixture_of, with_selector, interface_reference}
use Rattle.bcj_layout_resolution.specs.Places.{heads_in}
use Rattle.bcj_layout_rows.specs.Keys.{reference_in}
use Rattle.bcj_layout_rows.proofs.selector_table.Selectors.put_all.Given as goal

abbrev pub invariant-loop-entry : goal.invariant-loop-entry
invariant-loop-entry l =
    fold (with_selector (mixture_of l.resolver) (name_of (heads_in l.resolver) l.from)) (map reference_in l.references.keys) (map interface_reference (drop l.entry-index l.entries))
    ≡ fold (with_selector (mixture_of l.resolver) (name_of (heads_in l.resolver) l.from)) (map reference_in l.initial.references.keys) (map interface_reference l.entries)
