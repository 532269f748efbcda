-- What a reader expects of the tree that `show` prints.
use Rattle.std.specs.Prelude.{◌≡◌, ◌<◌, ◌^◌, ℕ, suc, false, length, None, Some}
use Rattle.std.specs.Str.Parse.{digits_value}
use Rattle.bcj_symbolic_trees.specs.Names.{object_name}
use Rattle.bcj_hier_rules.specs.Shapes.{Named, Shape, Mixture, found}
use Rattle.bcj_hier_rules.specs.Loading.{is_interface, load_error}
use Rattle.bcj_hier_soundness.specs.Laws.{IsHierarchy}
use Rattle.bcj_cli_showing.specs.Lines.{steps_below_object, hexadecimal}

-- so many superclass steps lead from a class to Object
pub data StepsUp (m : Mixture) : Named → ℕ → Type 0 where
  here_already : StepsUp m object_name 0
  one_more : {c p : Named} {s : Shape} {n : ℕ} → found m c ≡ Some s → s.head.superclass ≡ Some p → StepsUp m p n → StepsUp m c (suc n)

-- the spaces of a class that loads are by its way to Object, however long that is
abbrev pub StepsLeadToObject : Type 0
StepsLeadToObject = (m : Mixture) → IsHierarchy m → (c : Named) → load_error m c ≡ None → is_interface m c ≡ false → StepsUp m c (steps_below_object m c)

-- the digits of a word are eight, and the number that they write is the word
abbrev pub DigitsWriteWords : Type 0
DigitsWriteWords = (word : ℕ) → word < 2 ^ 32 → (length (hexadecimal word) ≡ 8) × (digits_value 16 (hexadecimal word) ≡ word)
