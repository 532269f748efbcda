use Rattle.std.proofs.Common.{◌∙◌, ap, sym}
use Rattle.std.specs.Option.{unwrap_or}
use Rattle.bcj_hier_rules.specs.Heads.{name_of}
use Rattle.bcj_hier_rules.specs.Loading.{turns}
use Rattle.bcj_hier_rules.specs.Selection.{open_within, with_code}
use Rattle.bcj_layout_rules.specs.Rows.{mixture_of}
use Rattle.bcj_layout_resolution.specs.Places.{heads_in}
use Rattle.bcj_layout_addresses.specs.Parts.{classes_of, main_of}
use Rattle.bcj_linker_rows.proofs.CallLemmas.{selected_private, selected_open, or_no_code}
use Rattle.bcj_linker_rows.proofs.implemented.selected_word.Goals as goal

pub returns-then-named : goal.returns-then-named
returns-then-named c =
    let cs = classes_of c.args.parts.now in
    λ x h. c.method_address.ensures x h
    ∙ sym (selected_private cs (main_of c.args.parts.now) (name_of (heads_in cs) c.args.class) x c.method_record-named.result.now (c.method_record-named.ensures x h) c.if-named.true)

pub returns : goal.returns
returns c =
    let cs = classes_of c.args.parts.now in
    let main = main_of c.args.parts.now in
    let class = name_of (heads_in cs) c.args.class in
    let r = c.method_record-named.result.now in
    λ x h. c.unwrap_or.ensures
    ∙ (ap (λ o. unwrap_or o 1) c.call_address.ensures
    ∙ (or_no_code cs main (with_code (mixture_of cs) (open_within (mixture_of cs) (turns (mixture_of cs)) r.name r.desc class))
    ∙ sym (selected_open cs main class x r (c.method_record-named.ensures x h) c.if-named.false)))
