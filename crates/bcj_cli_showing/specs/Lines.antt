-- The lines of `show`, one definition a kind: the tree of classes, class records, and words of code.
use Rattle.std.specs.Prelude.{ℕ, zero, suc, ◌*◌, ◌/◌, ◌%◌, ◌^◌, false, List, [], ◌∷◌, ◌++◌, Option, None, Some, codes, decimal, replicate, if◌then◌else◌}
use Rattle.std.specs.Fmt.{digit_glyph}
use Rattle.bcj_hier_rules.specs.Shapes.{Named, Mixture, found}
use Rattle.bcj_hier_rules.specs.Loading.{turns}
use Rattle.bcj_tables_rules.specs.declared.records.FieldRecord.{FieldRecord}
use Rattle.bcj_tables_rules.specs.declared.records.MethodRecord.{MethodRecord}
use Rattle.bcj_tables_rules.specs.declared.records.Range.{Range}
use Rattle.bcj_tables_rules.specs.declared.records.PairRecord.{PairRecord}
use Rattle.bcj_tables_rules.specs.declared.records.CEntry.{CEntry}
use Rattle.bcj_tables_rules.specs.declared.records.OEntry.{OEntry}
use Rattle.bcj_tables_rules.specs.declared.records.AEntry.{AEntry}
use Rattle.bcj_tables_rules.specs.declared.records.IEntry.{IEntry}

-- words with a blank between each two, and a line end
abbrev pub line : List (List ℕ) → List ℕ
line [] = codes "\n"
line (word ∷ []) = word ++ codes "\n"
line (word ∷ other ∷ rest) = word ++ (codes " " ++ line (other ∷ rest))

-- ---- the tree

-- the steps from a class up to one without superclass, n at most
abbrev pub steps_within : ℕ → Mixture → Named → ℕ
steps_within zero m class = 0
steps_within (suc n) m class = elim (found m class) [
  | None ↦ 0
  | Some s ↦ elim s.head.superclass [ None ↦ 0 | Some parent ↦ suc (steps_within n m parent) ]
]

-- the steps from a class to Object
abbrev pub steps_below_object : Mixture → Named → ℕ
steps_below_object m class = steps_within (turns m) m class

-- two spaces for each step
unfoldable pub tree_line : Mixture → Named → List ℕ
tree_line m class = line (codes "tree" ∷ (replicate (2 * steps_below_object m class) 32 ++ class) ∷ [])

-- ---- class records

unfoldable pub class_line : Named → List ℕ
class_line name = line (codes "class" ∷ name ∷ [])

unfoldable pub field_line : FieldRecord → List ℕ
field_line f = line (codes "field" ∷ f.name ∷ f.ty ∷ [])

unfoldable pub method_line : MethodRecord → List ℕ
method_line m = line (codes "method" ∷ m.name ∷ m.desc ∷ decimal m.entry ∷ decimal m.words ∷ decimal m.frame ∷ [])

-- the class that a range catches
abbrev pub caught : Option Named → List ℕ
caught None = codes "any"
caught (Some class) = class

unfoldable pub range_line : Range → List ℕ
range_line r = line (codes "range" ∷ decimal r.method ∷ decimal r.start ∷ decimal r.end ∷ decimal r.target ∷ caught r.class ∷ [])

unfoldable pub pair_line : PairRecord → List ℕ
pair_line p = line (codes "pair" ∷ p.from ∷ p.to ∷ [])

-- what an entry does with its type
abbrev pub type_use : CEntry → List ℕ
type_use e = if e.is_new then codes "new" else codes "type"

-- a member of a class as one word
abbrev pub member : Named → Named → List ℕ → List ℕ
member class name desc = class ++ (codes "." ++ (name ++ (codes ":" ++ desc)))

unfoldable pub ctable_line : ℕ → CEntry → List ℕ
ctable_line at e = line (codes "ctable" ∷ decimal at ∷ type_use e ∷ e.ty ∷ [])

unfoldable pub otable_line : ℕ → OEntry → List ℕ
otable_line at e = line (codes "otable" ∷ decimal at ∷ member e.class e.name e.desc ∷ [])

unfoldable pub atable_line : ℕ → AEntry → List ℕ
atable_line at e = line (codes "atable" ∷ decimal at ∷ member e.class e.name e.desc ∷ [])

unfoldable pub itable_line : ℕ → IEntry → List ℕ
itable_line at e = line (codes "itable" ∷ decimal at ∷ member e.class e.name e.desc ∷ [])

-- ---- words of code

-- n digits of a number, the highest first
abbrev pub hexadecimal_digits : ℕ → ℕ → List ℕ
hexadecimal_digits zero number = []
hexadecimal_digits (suc n) number = digit_glyph false (number / 16 ^ n % 16) ∷ hexadecimal_digits n number

-- a word in eight digits
unfoldable pub hexadecimal : ℕ → List ℕ
hexadecimal word = hexadecimal_digits 8 word

unfoldable pub word_line : ℕ → ℕ → List ℕ
word_line at word = line (decimal at ∷ hexadecimal word ∷ [])
