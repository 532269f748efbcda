-- The code of a class as it grows, body by body.
use Rattle.std.specs.Prelude.{ℕ, List, [], ◌∷◌, ◌++◌, length, map}
use Rattle.bcj_symbolic_measure.specs.Entries.{PlainEntry}
use Rattle.bcj_lower_rules.specs.Bodies.{Body}
use Rattle.bcj_lower_rules.specs.Classes.{PlainRelocation, PlainMethodCode, PlainRange, body_words, body_relocations, method_code, body_ranges}
use Rattle.bcj_lower.specs.declared.emitting.Emitted.{Emitted}
use Rattle.bcj_lower.specs.Views.{relocation_in, method_in, range_in}

pub record Parts : Type 0 where
  pub words : List ℕ
  pub relocations : List PlainRelocation
  pub methods : List PlainMethodCode
  pub ranges : List PlainRange

abbrev pub parts_in : Emitted → Parts
parts_in e = record {
  words = e.words.items;
  relocations = map relocation_in e.relocs.items;
  methods = map method_in e.methods.items;
  ranges = map range_in e.ranges.items;
}

abbrev pub no_parts : Parts
no_parts = record { words = []; relocations = []; methods = []; ranges = [] }

-- a body behind the others
abbrev pub with_body : List PlainEntry → Parts → Body → Parts
with_body uses p b = record {
  words = p.words ++ body_words b;
  relocations = p.relocations ++ body_relocations uses (length p.words) b;
  methods = p.methods ++ method_code (length p.words) b ∷ [];
  ranges = p.ranges ++ body_ranges (length p.methods) (length p.words) b;
}

abbrev pub with_bodies : List PlainEntry → Parts → List Body → Parts
with_bodies uses p [] = p
with_bodies uses p (b ∷ rest) = with_bodies uses (with_body uses p b) rest
