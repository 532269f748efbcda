-- What the words of items in given forms rest on.
use Rattle.std.specs.Prelude.{◌≡◌, ℕ, List, ◌∷◌, ◌++◌, IsTrue}
use Rattle.bcj_asm.specs.declared.item.Item.{Item}
use Rattle.bcj_asm.specs.declared.item.Item.TheVariants.{Word, Jump, Branch, Place}
use Rattle.bcj_asm.specs.declared.forms.Form.{Form}
use Rattle.bcj_asm.specs.declared.forms.Form.TheVariants.{Short, Long}
use Rattle.bcj_asm.specs.declared.forms.Formed.{Formed}
use Rattle.bcj_asm.specs.Forms.{distance, reaches, sizes}
use Rattle.bcj_asm.specs.Assembly.{IsItem}

abbrev pub IsFormed : Formed → Type 0
IsFormed x = IsItem x.item

-- a short branch reaches
abbrev pub BranchFits : Form → (here to : ℕ) → Type 0
BranchFits Short here to = IsTrue (reaches (distance here to))
BranchFits Long here to = Unit {0}

-- an item at a place reaches, if it is a short branch
abbrev pub Fits : (ℕ → ℕ) → ℕ → Form → Item → Type 0
Fits target here f (Word i) = Unit {0}
Fits target here f (Jump rd to) = Unit {0}
Fits target here f (Branch i to) = BranchFits f here (target to.0)
Fits target here f (Place l) = Unit {0}

-- each short branch reaches
abbrev pub AllFit : (ℕ → ℕ) → List Formed → Type 0
AllFit target xs = (front back : List Formed) (x : Formed) → xs ≡ front ++ x ∷ back → Fits target (sizes front) x.form x.item
