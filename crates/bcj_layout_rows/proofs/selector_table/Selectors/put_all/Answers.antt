use Rattle.std.proofs.Common.{◌∙◌, map, arith}
use Rattle.bcj_hier_rules.specs.Heads.{name_of}
use Rattle.bcj_layout_rules.specs.Rows.{mixture_of}
use Rattle.bcj_layout_resolution.specs.Places.{heads_in}
use Rattle.bcj_layout_rows.specs.Keys.{reference_in}
use Rattle.bcj_layout_rows.proofs.SelectorLemmas.{entry-step}
use Rattle.bcj_layout_rows.proofs.selector_table.Selectors.put_all.Goals as goal

pub loop-entry-preserved : goal.loop-entry-preserved
loop-entry-preserved c =
    entry-step (mixture_of c.args.resolver.now) (name_of (heads_in c.args.resolver.now) c.args.from) c.args.entries.now c.loop-entry.entry-index c.entry-item.result (map reference_in c.loop-entry.references.keys) (map reference_in c.put.new.references.keys)
    (omega arith)
    c.entry-item.is
    c.in_ok-put.ensures
    ∙ c.loop-entry.invariant
