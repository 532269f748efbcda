use Rattle.std.proofs.Common.{◌∙◌, sym, ap, refl, Ok}
use Rattle.bcj_hier_rules.specs.declared.call_kind.CallKind.TheVariants as call
use Rattle.bcj_hier_rules.specs.Heads.{name_of}
use Rattle.bcj_layout_rules.specs.Rows.{mixture_of}
use Rattle.bcj_layout_rules.specs.Entries.{mapped, offset_of_method, offset_reference}
use Rattle.bcj_layout_resolution.specs.Places.{heads_in}
use Rattle.bcj_layout_entries.proofs.Loads.{method-named, method-declared}
use Rattle.bcj_layout_entries.proofs.offsets.method_word.Goals as goal

pub slot_word-requires-clause-loads : goal.slot_word-requires-clause-loads
slot_word-requires-clause-loads c =
    let cs = c.args.parts.now.resolver.now in
    let ok = c.in-Ok.ensures.ok in
    method-named (mixture_of cs) (name_of (heads_in cs) c.args.from) (offset_reference cs c.args.parts.now.main.now c.args.entry.now) call.Instance ok.0 ok.1

pub slot_word-requires-clause-found : goal.slot_word-requires-clause-found
slot_word-requires-clause-found c =
    let cs = c.args.parts.now.resolver.now in
    let ok = c.in-Ok.ensures.ok in
    (ok.0, ok.2, method-declared (mixture_of cs) (name_of (heads_in cs) c.args.from) (offset_reference cs c.args.parts.now.main.now c.args.entry.now) call.Instance ok.0 ok.1)

pub returns-in_ok-slot_word-in-Ok : goal.returns-in_ok-slot_word-in-Ok
returns-in_ok-slot_word-in-Ok c =
    let cs = c.args.parts.now.resolver.now in
    let main = c.args.parts.now.main.now in
    let r = offset_reference cs main c.args.entry.now in
    let ok = c.in-Ok.ensures.ok in
    ap Ok (c.in_ok-slot_word-in-Ok.ensures ok.0 r ok.2 refl) ∙ sym (ap (mapped (offset_of_method cs main r)) ok.1)
