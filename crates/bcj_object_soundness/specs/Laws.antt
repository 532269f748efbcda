-- What holds of the object of a unit, with records of either version.
use Rattle.std.specs.Prelude.{◌≡◌, ℕ, ◌^◌, ◌<◌, ◌≤◌, true, length, None}
use Rattle.bcj_elf.specs.declared.object.Section.TheVariants.{Text, Tab}
use Rattle.bcj_elf.specs.Layout.{sizes, file_end}
use Rattle.bcj_elf.specs.Rules.{are_symbols, are_relocations, IsObject}
use Rattle.bcj_elf.specs.Spelling as elf
use Rattle.bcj_symbolic_trees.specs.Units.{PlainUnit}
use Rattle.bcj_symbolic_check.specs.Classes.{fault_of}
use Rattle.bcj_symbolic_measure.specs.Objects.{object_size}
use Rattle.bcj_object_rules.specs.Objects.{object_of}
use Rattle.bcj_object_rules.specs.Sizes.{IsSmall}

-- the symbols of classes name them, and their regions follow one another and fill both sections
abbrev pub SymbolsArePlaced : Type 0
SymbolsArePlaced =
    (version : ℕ) (u : PlainUnit) → fault_of u ≡ None
    → are_symbols (length (object_of version u).text) (length (object_of version u).tab) 0 0 (object_of version u).symbols ≡ true

-- relocations rise, are of words of their section whose bits they set are zero, and have their symbols
abbrev pub TextRelocationsAreInPlace : Type 0
TextRelocationsAreInPlace =
    (version : ℕ) (u : PlainUnit) → IsSmall u
    → are_relocations Text (object_of version u).text (length (object_of version u).symbols) 0 (object_of version u).text_relocs ≡ true

abbrev pub TabRelocationsAreInPlace : Type 0
TabRelocationsAreInPlace =
    (version : ℕ) (u : PlainUnit) → IsSmall u
    → are_relocations Tab (object_of version u).tab (length (object_of version u).symbols) 0 (object_of version u).tab_relocs ≡ true

-- a file of an object ends where it is measured at the latest, and has as many bytes
abbrev pub EndsAreMeasured : Type 0
EndsAreMeasured = (version : ℕ) (u : PlainUnit) → file_end (sizes (object_of version u)) ≤ object_size u

abbrev pub ObjectsAreMeasured : Type 0
ObjectsAreMeasured = (version : ℕ) (u : PlainUnit) → length (elf.spelling (object_of version u)) ≤ object_size u

-- the offsets and sizes in its headers are words
abbrev pub ObjectsAreSmall : Type 0
ObjectsAreSmall = (version : ℕ) (u : PlainUnit) → IsSmall u → file_end (sizes (object_of version u)) < 2 ^ 32

-- the whole
abbrev pub ObjectsAreWellFormed : Type 0
ObjectsAreWellFormed = (version : ℕ) (u : PlainUnit) → fault_of u ≡ None → IsSmall u → IsObject (object_of version u)
