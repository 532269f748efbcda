use Rattle.std.proofs.Common.{◌∙◌, sym, ap, refl, true, Ok, Some}
use Rattle.bcj_hier_rules.specs.Heads.{name_of}
use Rattle.bcj_hier_rules.specs.Resolution.{resolved_field}
use Rattle.bcj_layout_rules.specs.Rows.{mixture_of}
use Rattle.bcj_layout_rules.specs.Entries.{mapped, address_of_field, address_reference}
use Rattle.bcj_layout_resolution.specs.Places.{heads_in}
use Rattle.bcj_layout_entries.specs.Classes.{class_of_field}
use Rattle.bcj_layout_entries.proofs.Loads.{field-static}
use Rattle.bcj_layout_entries.proofs.Words.{refused, name-there, is-there}
use Rattle.bcj_layout_entries.proofs.addresses.field_entry.Goals as goal

pub returns-in-Err : goal.returns-in-Err
returns-in-Err c =
    let cs = c.args.parts.now.resolver.now in
    let main = c.args.parts.now.main.now in
    let r = address_reference cs main c.args.entry.now in
    refused cs (address_of_field cs main) class_of_field (resolved_field (mixture_of cs) (name_of (heads_in cs) c.args.from) r true) c.in-Err.error c.unresolved.result refl c.in-Err.ensures.err
    (c.unresolved.ensures cs)

pub returns-in-Ok : goal.returns-in-Ok
returns-in-Ok c =
    let cs = c.args.parts.now.resolver.now in
    let main = c.args.parts.now.main.now in
    let from = name_of (heads_in cs) c.args.from in
    let r = address_reference cs main c.args.entry.now in
    let ok = c.in-Ok.ensures.ok in
    let is = ok.2 in
    record {
      is_word = ap Ok (c.field_place.ensures.static_fields cs main ok.0 c.requires.parts.addresses is (field-static (mixture_of cs) from r true ok.0 ok.1)) ∙ sym (ap (mapped (address_of_field cs main)) ok.1);
      is_class = ap Some (name-there cs c.in-Ok.field.class is.class is.record_of ∙ sym is.named) ∙ sym (ap class_of_field ok.1);
      among = is-there cs c.in-Ok.field.class is.class is.record_of;
    }
