use Rattle.std.proofs.Common.{◌∙◌}
use Rattle.bcj_layout_rows.proofs.HierLemmas.{loads-by}
use Rattle.bcj_layout_addresses.proofs.fields.is_loaded.Goals as goal

pub returns : goal.returns
returns c = c.is_ok.ensures.value ∙ loads-by c.args.resolver.now c.hier.result.now c.args.class c.load.result c.hier.ensures c.load.ensures
