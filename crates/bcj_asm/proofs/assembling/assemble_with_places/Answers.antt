use Rattle.std.proofs.Common.{List, ap, ◌∙◌, arith}
use Rattle.bcj_asm.specs.declared.item.Item.{Item}
use Rattle.bcj_asm.specs.Forms.{formed}
use Rattle.bcj_asm.specs.Assembly.{max_words}
use Rattle.bcj_asm.specs.Lists.{max_list_length}
use Rattle.bcj_asm.proofs.Emitting.{all_formed, few_formed, table_bound, table_fits}
use Rattle.bcj_asm.proofs.assembling.assemble_with_places.Goals as goal

pub find_places-requires : goal.find_places-requires
find_places-requires c =
    few_formed c.as_slice.result.now c.as_slice-forms.result.now max_list_length
    (c.as_slice-forms.ensures.value ∙ c.in_ok-forms.ensures) c.as_slice.ensures.count

pub item_places-requires : goal.item_places-requires
item_places-requires c =
    few_formed c.as_slice.result.now c.as_slice-forms.result.now max_list_length
    (c.as_slice-forms.ensures.value ∙ c.in_ok-forms.ensures) c.as_slice.ensures.count

pub emit_all-requires-clause-items : goal.emit_all-requires-clause-items
emit_all-requires-clause-items c =
    all_formed c.args.items.now c.as_slice-forms.result.now
    (c.as_slice-forms.ensures.value ∙ c.in_ok-forms.ensures ∙ ap (λ (is : List Item). formed is) c.as_slice.ensures.items)
    c.requires

pub emit_all-requires-clause-places : goal.emit_all-requires-clause-places
emit_all-requires-clause-places c =
    table_bound c.in_ok-labels.labels.named c.as_slice-forms.result.now max_words c.in_ok-labels.ensures.named
    (omega (arith, c.in_ok-labels.ensures.words))

pub emit_all-requires-clause-fit : goal.emit_all-requires-clause-fit
emit_all-requires-clause-fit c =
    table_fits c.in_ok-labels.labels.named c.as_slice.result.now c.as_slice-forms.result.now
    (c.as_slice-forms.ensures.value ∙ c.in_ok-forms.ensures) c.in_ok-labels.ensures.named
