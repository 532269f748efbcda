use Rattle.std.proofs.Common.{◌≡◌, ◌∙◌, ap, sym, Bool, Ok}
use Rattle.bcj_hier_rules.specs.Heads.{name_of}
use Rattle.bcj_hier_rules.specs.Loading.{load_error, implements}
use Rattle.bcj_hier_rules.specs.Resolution.{resolved_interface}
use Rattle.bcj_hier_soundness.proofs.Resolving.{interface_methods_are_members}
use Rattle.bcj_layout_rules.specs.Rows.{mixture_of}
use Rattle.bcj_layout_resolution.specs.Places.{heads_in}
use Rattle.bcj_layout_resolution.proofs.Records.{loads_in, implements_in}
use Rattle.bcj_layout_rows.specs.Keys.{reference_in}
use Rattle.bcj_layout_addresses.specs.Parts.{classes_of, main_of}
use Rattle.bcj_linker_rows.proofs.CallLemmas.{implemented_word, not_implemented}
use Rattle.bcj_linker_rows.proofs.implemented.interface_word.Goals as goal

pub implements-requires-clause-loads : goal.implements-requires-clause-loads
implements-requires-clause-loads c = loads_in c.hier.result.now (classes_of c.args.parts.now) c.args.class c.hier.ensures ∙ c.requires.loading.loads

pub implements-requires-clause-other_loads : goal.implements-requires-clause-other_loads
implements-requires-clause-other_loads c =
    let cs = classes_of c.args.parts.now in
    let ok = c.in-Ok.ensures.ok in
    loads_in c.hier.result.now cs c.args.interface c.hier.ensures
    ∙ (ap (load_error (mixture_of cs)) c.requires.named
    ∙ (interface_methods_are_members (mixture_of cs) (name_of (heads_in cs) c.args.interface) (reference_in c.args.selector) ok.0 ok.1).0)

pub returns-then-implements : goal.returns-then-implements
returns-then-implements c =
    let cs = classes_of c.args.parts.now in
    let m = mixture_of cs in
    let class = name_of (heads_in cs) c.args.class in
    let r = reference_in c.args.selector in
    let ok = c.in-Ok.ensures.ok in
    let here : resolved_interface m r.class r ≡ Ok ok.0 = sym (ap (λ n. resolved_interface m n r) c.requires.named) ∙ ok.1 in
    let it : implements m class r.class ≡ Bool.true =
    sym (ap (implements m class) c.requires.named) ∙ (sym (implements_in c.hier.result.now cs c.args.class c.args.interface c.hier.ensures) ∙ (sym c.implements.ensures ∙ c.if-implements.true)) in
    c.selected_word.ensures ok.0 ok.2 ∙ sym (implemented_word cs (main_of c.args.parts.now) class r ok.0 it here)

pub returns-else-implements : goal.returns-else-implements
returns-else-implements c =
    let cs = classes_of c.args.parts.now in
    let m = mixture_of cs in
    let class = name_of (heads_in cs) c.args.class in
    let r = reference_in c.args.selector in
    let it : implements m class r.class ≡ Bool.false =
    sym (ap (implements m class) c.requires.named) ∙ (sym (implements_in c.hier.result.now cs c.args.class c.args.interface c.hier.ensures) ∙ (sym c.implements.ensures ∙ c.if-implements.false)) in
    sym (not_implemented cs (main_of c.args.parts.now) class r it)
