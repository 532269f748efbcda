-- Which bytes are an object of a mixture, and where bytes that are none are damaged.
use Rattle.std.specs.Prelude.{◌≡◌, ℕ, ◌+◌, ◌⊎◌, List, [], ◌∷◌}
use Rattle.bcj_elf.specs.Plain.{PlainObject}
use Rattle.bcj_elf.specs.Layout.{rec_at, sizes}
use Rattle.bcj_elf.specs.Rules.{IsObject}
use Rattle.bcj_elf.specs.Spelling as elf
use Rattle.bcj_elf.specs.Places as field
use Rattle.bcj_tables_rules.specs.declared.records.Records.{Records}
use Rattle.bcj_tables_rules.specs.Spelling as tables
use Rattle.bcj_tables_rules.specs.Records.{Meets, IsFirstBad}
use Rattle.bcj_tables.specs.Places.{outside_of}
use Rattle.bcj_linker_rules.specs.Memory.{Linked}

-- ---- objects

-- the bytes spell an object, which holds the records of these classes
pub record IsLinked (bytes : List ℕ) (l : Linked) : Type 0 where
  pub object : IsObject l.object
  pub spelled : elf.spelling l.object ≡ bytes
  pub version : ℕ
  pub meets : Meets (outside_of l.object) (record { version = version; classes = l.classes })
  pub recorded : tables.spelling (record { version = version; classes = l.classes }) ≡ l.object.rec

-- one by one
abbrev pub AreLinked : List (List ℕ) → List Linked → Type 0
AreLinked [] [] = Unit {0}
AreLinked [] (l ∷ ls) = ⊥
AreLinked (bytes ∷ others) [] = ⊥
AreLinked (bytes ∷ others) (l ∷ ls) = IsLinked bytes l × AreLinked others ls

-- ---- damage

-- no object has the bytes, and the first bad field is at this offset
pub record IsNoObject (bytes : List ℕ) (at : ℕ) : Type 0 where
  pub none : (o : PlainObject) → IsObject o → elf.spelling o ≡ bytes → ⊥
  pub name : List ℕ
  pub first : field.IsFirstBad bytes at name

-- an object has the bytes, but it holds no records, and the first bad field of those is at this offset of the file
pub record HasNoRecords (bytes : List ℕ) (at : ℕ) : Type 0 where
  pub object : PlainObject
  pub is : IsObject object
  pub spelled : elf.spelling object ≡ bytes
  pub none : (r : Records) → Meets (outside_of object) r → tables.spelling r ≡ object.rec → ⊥
  pub inside : ℕ
  pub first : IsFirstBad (outside_of object) object.rec inside
  pub offset : at ≡ rec_at (sizes object) + inside

abbrev pub IsBadObject : List ℕ → ℕ → Type 0
IsBadObject bytes at = IsNoObject bytes at ⊎ HasNoRecords bytes at
