-- What holds of the rounds in which branches become short.
use Rattle.std.specs.Prelude.{◌≡◌, ◌↔◌, ℕ, List, ◌∷◌, ◌++◌, IsTrue}
use Rattle.std.specs.List.{AllZip}
use Rattle.rv_isa.specs.declared.instruction.Instr.{Instr}
use Rattle.bcj_asm.specs.declared.item.Item.{Item}
use Rattle.bcj_asm.specs.declared.item.Item.TheVariants.{Branch}
use Rattle.bcj_asm.specs.declared.item.Label.{Label}
use Rattle.bcj_asm.specs.declared.forms.Form.{Form}
use Rattle.bcj_asm.specs.declared.forms.Form.TheVariants.{Short}
use Rattle.bcj_asm.specs.declared.forms.Formed.{Formed}
use Rattle.bcj_asm.specs.Forms.{in_form, reaches_as_one, next_forms, rounds, all_long, formed}

-- the same item, and short if it was short
pub record StaysShort (x y : Formed) : Type 0 where
  pub item : y.item ≡ x.item
  pub short : x.form ≡ Short → y.form ≡ Short

-- from round to round branches only become short
abbrev pub FormsOnlyShrink : Type 0
FormsOnlyShrink = (items : List Item) (n : ℕ)
    → AllZip StaysShort (rounds n (all_long items)) (next_forms (rounds n (all_long items)))

-- a further round changes nothing
abbrev pub FormsAreSettled : Type 0
FormsAreSettled = (items : List Item) → next_forms (formed items) ≡ formed items

-- a branch is short exactly where it reaches as one word while the others stay as they are
abbrev pub ShortWhereReaching : Type 0
ShortWhereReaching = (items : List Item) (front back : List Formed) (f : Form) (i : Instr) (to : Label)
    → formed items ≡ front ++ in_form f (Branch i to) ∷ back
    → (f ≡ Short) ↔ IsTrue (reaches_as_one front (Branch i to) to.0 back)
