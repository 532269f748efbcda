-- The object file of a unit (ELF32; RISC-V psABI): the code and the tables of its classes one behind the other, what linking sets in
-- them, and the records of the classes.
use Rattle.std.specs.Prelude.{◌≡◌, ◌⊎◌, ℕ, ◌+◌, ◌*◌, false, List, [], ◌∷◌, ◌++◌, length, map, replicate, None}
use Rattle.std.specs.List.{flat_map, AllByRecursion}
use Rattle.bcj_elf.specs.declared.object.Section.TheVariants as section
use Rattle.bcj_elf.specs.declared.object.RelocationKind.{RelocationKind}
use Rattle.bcj_elf.specs.declared.object.RelocationKind.TheVariants as kind
use Rattle.bcj_elf.specs.declared.object.Relocation.{Relocation}
use Rattle.bcj_elf.specs.Plain.{PlainObject, PlainSymbol}
use Rattle.bcj_elf.specs.Rules.{code_ending, tables_ending}
use Rattle.bcj_elf.specs.Spelling as elf
use Rattle.bcj_symbolic_trees.specs.Units.{PlainField, PlainMethod, PlainClass, PlainUnit}
use Rattle.bcj_symbolic_check.specs.Classes.{fault_of}
use Rattle.bcj_lower_rules.specs.declared.half.Half.{Half}
use Rattle.bcj_lower_rules.specs.declared.half.Half.TheVariants as half
use Rattle.bcj_lower_rules.specs.Words.{word_size}
use Rattle.bcj_lower_rules.specs.Classes.{PlainRelocation, PlainCode, code_of}
use Rattle.bcj_tables_rules.specs.declared.records.ClassRecord.{ClassRecord}
use Rattle.bcj_tables_rules.specs.Spelling as records
use Rattle.bcj_object_rules.specs.Records.{class_record}
use Rattle.bcj_object_rules.specs.Sizes.{IsSmall}

-- ---- places

-- a class with its code, its number from 0, and the offsets of its code in `.text` and of its tables in `.bcj.tab`
pub record Placed : Type 0 where
  pub class : PlainClass
  pub code : PlainCode
  pub number : ℕ
  pub text : ℕ
  pub tab : ℕ

abbrev pub text_size : PlainCode → ℕ
text_size code = word_size * length code.words

-- a word with the address of the class initialiser, and one for each entry
abbrev pub table_words : PlainCode → ℕ
table_words code = 1 + length code.ctable + length code.otable + length code.atable + length code.itable

abbrev pub tab_size : PlainCode → ℕ
tab_size code = word_size * table_words code

abbrev pub placed : ℕ → ℕ → ℕ → List PlainClass → List Placed
placed number text tab [] = []
placed number text tab (c ∷ cs) =
    record { class = c; code = code_of c; number = number; text = text; tab = tab }
    ∷ placed (number + 1) (text + text_size (code_of c)) (tab + tab_size (code_of c)) cs

-- ---- symbols

-- each class has a symbol for its code and then one for its tables; symbol 0 is none
abbrev pub code_symbol : ℕ → ℕ
code_symbol number = 2 * number + 1

abbrev pub tables_symbol : ℕ → ℕ
tables_symbol number = 2 * number + 2

abbrev pub class_symbols : Placed → List PlainSymbol
class_symbols p =
    record { name = p.class.head.name ++ code_ending; value = p.text; size = text_size p.code; section = section.Text }
    ∷ record { name = p.class.head.name ++ tables_ending; value = p.tab; size = tab_size p.code; section = section.Tab }
    ∷ []

-- ---- sections

abbrev pub class_text : Placed → List ℕ
class_text p = flat_map elf.word p.code.words

-- the tables are zero before linking
abbrev pub class_tab : Placed → List ℕ
class_tab p = replicate (tab_size p.code) 0

abbrev pub half_kind : Half → RelocationKind
half_kind half.Upper = kind.Hi20
half_kind half.Lower = kind.Lo12I

-- a half of an address of the class's own tables
abbrev pub text_relocation : Placed → PlainRelocation → Relocation
text_relocation p r = record { offset = p.text + r.offset; symbol = tables_symbol p.number; kind = half_kind r.half; addend = r.addend }

abbrev pub class_text_relocations : Placed → List Relocation
class_text_relocations p = map (text_relocation p) p.code.relocations

-- the first word of the tables is the address of the class initialiser, with which the class's code begins
abbrev pub tab_relocation : Placed → Relocation
tab_relocation p = record { offset = p.tab; symbol = code_symbol p.number; kind = kind.Word; addend = 0 }

abbrev pub placed_record : Placed → ClassRecord
placed_record p = class_record p.text p.tab p.class p.code

-- ---- objects

unfoldable pub object_at : ℕ → List Placed → PlainObject
object_at version ps = record {
  text = flat_map class_text ps;
  text_relocs = flat_map class_text_relocations ps;
  tab = flat_map class_tab ps;
  tab_relocs = map tab_relocation ps;
  rec = records.spelling (record { version = version; classes = map placed_record ps });
  symbols = flat_map class_symbols ps;
}

-- the parts of a unit's object, with records of a version
abbrev pub object_of : ℕ → PlainUnit → PlainObject
object_of version u = object_at version (placed 0 0 0 u.classes)

-- the version of records that are written, which can say that a member is private, and the one before
abbrev pub current_version : ℕ
current_version = 2

abbrev pub first_version : ℕ
first_version = 1

abbrev pub object : PlainUnit → List ℕ
object u = elf.spelling (object_of current_version u)

abbrev pub object1 : PlainUnit → List ℕ
object1 u = elf.spelling (object_of first_version u)

-- ---- what a compilation gives and a link takes

abbrev pub HasNoPrivateMember : PlainUnit → Type 0
HasNoPrivateMember u =
    AllByRecursion (λ (c : PlainClass). AllByRecursion (λ (f : PlainField). f.is_private ≡ false) c.fields × AllByRecursion (λ (m : PlainMethod). m.is_private ≡ false) c.methods)
    u.classes

-- the bytes are an object of the unit, which is well typed and within the limits
pub record Carries (bytes : List ℕ) (u : PlainUnit) : Type 0 where
  pub typed : fault_of u ≡ None
  pub small : IsSmall u
  pub are : (bytes ≡ object u) ⊎ (HasNoPrivateMember u × (bytes ≡ object1 u))
