use Rattle.std.proofs.Common.{List, [], ◌∷◌, ◌++◌, slice_index_or, refl, ap, ◌∙◌}
use Rattle.std.specs.Prelude.{pos}
use Rattle.rv_isa.specs.declared.instruction.Instr.TheVariants.{Lui}
use Rattle.bcj_asm.specs.declared.item.Item.{Item}
use Rattle.bcj_asm.specs.declared.item.Item.TheVariants.{Word}
use Rattle.bcj_asm.specs.declared.forms.Form.TheVariants.{Long}
use Rattle.bcj_asm.specs.declared.forms.Formed.{Formed}
use Rattle.bcj_asm.specs.Forms.{in_form}
use Rattle.bcj_asm.proofs.Rounding.{long_more}
use Rattle.bcj_asm.proofs.rounds.all_long.Goals as goal

pub loop-item-preserved : goal.loop-item-preserved
loop-item-preserved c =
    let i = c.loop-item.item-index in
    let d : Item = Word (Lui 0 (pos 0)) in
    let x = slice_index_or c.args.items.now i d in
    rw (long_more c.args.items.now i x d c.loop-item-test.true refl)
    (c.in_ok-push.ensures.items ∙ ap (λ (xs : List Formed). xs ++ in_form Long x ∷ []) c.loop-item.invariant)
