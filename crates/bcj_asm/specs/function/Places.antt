-- A table of labels, and the forms that follow from it.
use Rattle.std.specs.Prelude.{ℕ, ◌-◌, nat_lt, unwrap_or, if◌then◌else◌}
use Rattle.std.specs.Ordering.{nat_cmp}
use Rattle.std.specs.BTreeMap.{BTreeMap, get}
use Rattle.bcj_asm.specs.declared.item.Item.{Item}
use Rattle.bcj_asm.specs.declared.item.Item.TheVariants.{Word, Jump, Branch, Place}
use Rattle.bcj_asm.specs.declared.forms.Form.{Form}
use Rattle.bcj_asm.specs.declared.forms.Form.TheVariants.{Short, Long}
use Rattle.bcj_asm.specs.Forms.{branch_size, distance, reaches}

-- where a label leads by a table: to the first word, if the table hasn't got it
abbrev pub named_place : BTreeMap ℕ ℕ → ℕ → ℕ
named_place named l = unwrap_or (get nat_cmp named l) 0

-- where a place lies when a branch of so many words counts as one
abbrev pub as_one : (here words to : ℕ) → ℕ
as_one here words to = if nat_lt here to then to - (words - 1) else to

-- the form in the next round of an item at a place, where labels lead to these places
abbrev pub form_at : (ℕ → ℕ) → ℕ → Form → Item → Form
form_at target here f (Word i) = Long
form_at target here f (Jump rd to) = Long
form_at target here f (Branch i to) =
    if reaches (distance here (as_one here (branch_size f) (target to.0))) then Short else Long
form_at target here f (Place l) = Long
