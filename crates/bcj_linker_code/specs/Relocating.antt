-- How the relocations of an object's code are gone over once, in the order in which they stand.
use Rattle.std.specs.Prelude.{◌≡◌, ◌≤◌, ℕ, ◌+◌, ◌/◌, ◌%◌, ◌==◌, List, [], ◌∷◌, length, drop}
use Rattle.std.specs.List.{find}
use Rattle.bcj_elf.specs.declared.object.Relocation.{Relocation}
use Rattle.bcj_elf.specs.Plain.{PlainObject}
use Rattle.bcj_hier_rules.specs.Shapes.{Named}
use Rattle.bcj_layout_rules.specs.Rows.{Classes}
use Rattle.bcj_layout_rules.specs.Places.{word_size}
use Rattle.bcj_linker_rules.specs.Relocations.{relocated_words}
use Rattle.bcj_linker_rules.specs.Memory.{words_within}

-- the relocations stand in rising order, and each is of a word that begins at an offset or behind
abbrev pub AreFrom : ℕ → List Relocation → Type 0
AreFrom least [] = Unit {0}
AreFrom least (r ∷ rs) = (least ≤ r.offset) × ((r.offset % word_size ≡ 0) × AreFrom (r.offset + 1) rs)

-- Of these relocations so many are passed, those of the words before an offset. The words from there on have just the relocations that are left.
pub record AreParted (rs : List Relocation) (passed at : ℕ) : Type 0 where
  pub aligned : at % word_size ≡ 0
  pub left : AreFrom at (drop passed rs)
  pub found : (q : ℕ) → at ≤ q → find (λ r. r.offset == q) rs ≡ find (λ r. r.offset == q) (drop passed rs)

-- the relocated code of an object whose first class has this number
abbrev pub object_code : Classes → Named → ℕ → PlainObject → List ℕ
object_code cs main first o = relocated_words cs main first o.text_relocs 0 (words_within (length o.text / word_size) 0 o.text)
