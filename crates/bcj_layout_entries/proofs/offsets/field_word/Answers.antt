use Rattle.std.proofs.Common.{◌∙◌, sym, ap, false, is_none, Ok}
use Rattle.bcj_hier_rules.specs.Heads.{name_of}
use Rattle.bcj_layout_rules.specs.Rows.{mixture_of}
use Rattle.bcj_layout_rules.specs.Entries.{mapped, offset_of_field, offset_reference}
use Rattle.bcj_layout_resolution.specs.Places.{heads_in}
use Rattle.bcj_layout_entries.proofs.Loads.{field-declared, field-static}
use Rattle.bcj_layout_entries.proofs.offsets.field_word.Goals as goal

pub returns-in-Ok : goal.returns-in-Ok
returns-in-Ok c =
    let cs = c.args.parts.now.resolver.now in
    let main = c.args.parts.now.main.now in
    let from = name_of (heads_in cs) c.args.from in
    let r = offset_reference cs main c.args.entry.now in
    let ok = c.in-Ok.ensures.ok in
    ap Ok
    (c.field_place.ensures.other_fields cs main ok.0 c.requires.parts.addresses ok.2 (field-static (mixture_of cs) from r false ok.0 ok.1)
    (ap is_none (field-declared (mixture_of cs) from r false ok.0 ok.1)))
    ∙ sym (ap (mapped (offset_of_field cs main)) ok.1)
