use Rattle.std.proofs.Common.{None, refl}
use Rattle.bcj_hier_rules.specs.Heads.{name_of}
use Rattle.bcj_hier_rules.specs.Resolution.{resolved_interface}
use Rattle.bcj_layout_rules.specs.Rows.{mixture_of}
use Rattle.bcj_layout_rules.specs.Entries.{selector_word, interface_entry}
use Rattle.bcj_layout_resolution.specs.Places.{heads_in}
use Rattle.bcj_layout_entries.proofs.Words.{refused}
use Rattle.bcj_layout_entries.proofs.interfaces.interface_entry.Goals as goal

pub returns-in-Err : goal.returns-in-Err
returns-in-Err c =
    let cs = c.args.parts.now.resolver.now in
    let main = c.args.parts.now.main.now in
    let r = interface_entry cs main c.args.entry.now in
    refused cs (λ f. selector_word cs main r) (λ q. None) (resolved_interface (mixture_of cs) (name_of (heads_in cs) c.args.from) r) c.in-Err.error c.unresolved.result refl c.in-Err.ensures.err
    (c.unresolved.ensures cs)
