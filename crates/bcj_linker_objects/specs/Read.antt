-- What reading one object answers.
use Rattle.std.specs.Prelude.{◌≡◌, ℕ, List, ⊤}
use Rattle.bcj_elf.specs.Plain.{PlainObject, plain}
use Rattle.bcj_elf.specs.Rules.{IsObject}
use Rattle.bcj_elf.specs.Spelling as elf
use Rattle.bcj_linker_rules.specs.Memory.{Linked}
use Rattle.bcj_linker_objects.specs.Objects.{IsBadObject}
use Rattle.bcj_linker_objects.specs.declared.reading.ReadObject.{ReadObject}
use Rattle.bcj_linker_objects.specs.declared.reading.ObjectStop.{ObjectStop}
use Rattle.bcj_linker_objects.specs.declared.reading.ObjectStop.TheVariants.{Bad, NoMemory}

pub record IsSpelled (bytes : List ℕ) (o : PlainObject) : Type 0 where
  pub object : IsObject o
  pub spelled : elf.spelling o ≡ bytes

abbrev pub linked_from : ReadObject → Linked
linked_from r = record { object = plain r.object; classes = r.classes }

abbrev pub IsBadAt : List ℕ → ObjectStop → Type 0
IsBadAt bytes (Bad at) = IsBadObject bytes at
IsBadAt bytes NoMemory = ⊤
