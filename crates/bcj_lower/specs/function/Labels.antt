-- Places of labels by the places of items.
use Rattle.std.specs.Prelude.{◌≡◌, ℕ, List, [], ◌∷◌, slice_index, unwrap_or}
use Rattle.bcj_asm.specs.declared.item.Item.{Item}
use Rattle.bcj_asm.specs.Forms.{formed, own_place, target_in}
use Rattle.bcj_lower_rules.specs.Lines.{Line, items_of}
use Rattle.bcj_lower.specs.declared.labels.LabelPlaces.{LabelPlaces}

abbrev pub label_place : LabelPlaces → ℕ → ℕ
label_place t l = slice_index t.places.items l

-- labels have the places that they have among lines
pub record HasPlaces (t : LabelPlaces) (lines : List Line) : Type 0 where
  pub at : (l : ℕ) → label_place t l ≡ target_in (formed (items_of lines)) l

-- the place of the last item that places a label, and another one where none does
abbrev pub last_place : ℕ → List Item → List ℕ → ℕ → ℕ
last_place before [] places l = before
last_place before (x ∷ xs) [] l = before
last_place before (x ∷ xs) (p ∷ ps) l = last_place (unwrap_or (own_place p x l) before) xs ps l
