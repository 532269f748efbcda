-- Parts of an image: members of so many words, one behind the other.
use Rattle.std.specs.Prelude.{◌≡◌, ◌≤◌, ℕ, zero, suc, ◌+◌, ◌*◌, List, length, take, sum, slice_get, Some}
use Rattle.bcj_hier_rules.specs.Shapes.{Named}
use Rattle.bcj_layout_rules.specs.Members.{slots}
use Rattle.bcj_layout_rules.specs.Rows.{Classes, mixture_of}
use Rattle.bcj_layout_rules.specs.Places.{word_size, row_head}
use Rattle.bcj_layout_places.specs.declared.part.Part.{Part}

-- the words of the row of a type that loads
abbrev pub class_row : Classes → Named → ℕ
class_row cs name = row_head + length (slots (mixture_of cs) name)

-- members from an address on, with one place more behind them, where the next part begins
pub record IsPart (at : ℕ) (sizes : List ℕ) (p : Part) : Type 0 where
  pub count : length p.places ≡ suc (length sizes)
  pub each : (k : ℕ) → k ≤ length sizes → slice_get p.places k ≡ Some (at + word_size * sum (take k sizes))
  pub behind : p.next ≡ at + word_size * sum sizes

-- own dispatch rows from an address on; for one of no words the empty one
pub record AreDispatchRows (empty own : ℕ) (sizes : List ℕ) (p : Part) : Type 0 where
  pub count : length p.places ≡ length sizes
  pub each : (k words : ℕ) → slice_get sizes k ≡ Some words → slice_get p.places k ≡ Some (elim words [ zero ↦ empty | suc n ↦ own + word_size * sum (take k sizes) ])
  pub behind : p.next ≡ own + word_size * sum sizes
