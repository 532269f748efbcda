use Rattle.std.proofs.Common.{◌∙◌, List, subst, sym}
use Rattle.bcj_tables_rules.specs.declared.records.ClassRecord.{ClassRecord}
use Rattle.bcj_hier_rules.specs.Heads.{name_of}
use Rattle.bcj_layout_resolution.specs.Places.{heads_in}
use Rattle.bcj_layout_members.specs.Places.{IsMethodAt}
use Rattle.bcj_layout_addresses.specs.Parts.{classes_of, main_of}
use Rattle.bcj_linker_rows.proofs.SlotLemmas.{method_found, is_method_found, private_word}
use Rattle.bcj_linker_rows.proofs.slots.slot_word.Goals as goal

pub method_address-requires-clause-found : goal.method_address-requires-clause-found
method_address-requires-clause-found c =
    let cs = classes_of c.args.parts.now in
    let m = c.method.result.now in
    let P : List ClassRecord → Type 0 = λ rs. IsMethodAt rs c.args.place m in
    let at : IsMethodAt cs c.args.place m = subst P c.requires.parts.members c.method.ensures.at in
    (method_found cs c.args.place m at, is_method_found cs c.args.place m at)

pub returns-then-is_private : goal.returns-then-is_private
returns-then-is_private c =
    let cs = classes_of c.args.parts.now in
    let m = c.method.result.now in
    let P : List ClassRecord → Type 0 = λ rs. IsMethodAt rs c.args.place m in
    let at : IsMethodAt cs c.args.place m = subst P c.requires.parts.members c.method.ensures.at in
    c.method_address.ensures (method_found cs c.args.place m at) (is_method_found cs c.args.place m at)
    ∙ sym (private_word cs (main_of c.args.parts.now) (name_of (heads_in cs) c.args.class) c.args.place m at c.if-is_private.true)
