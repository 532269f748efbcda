-- What the classes of a unit add up to, each sum at the last value of its type where it passes that.
use Rattle.std.specs.Prelude.{◌+◌, List, [], ◌∷◌, length}
use Rattle.bcj_symbolic_trees.specs.Units.{PlainClass}
use Rattle.bcj_symbolic_measure.specs.declared.object.Sums.{Sums}
use Rattle.bcj_symbolic_measure.specs.Bodies.{class_frame_size, class_bodies, largest_words, all_words, all_relocations}
use Rattle.bcj_symbolic_measure.specs.Objects.{initialiser_word, class_entries, class_record_size, class_names_size}
use Rattle.bcj_symbolic_measure.specs.Totals.{capped, plus, larger}

abbrev pub no_sums : Sums
no_sums = record { frame = 0; method = 0; text = 0; relocations = 0; tables = 0; records = 0; names = 0 }

unfoldable pub with_class : Sums → PlainClass → Sums
with_class s c = record {
  frame = capped (larger s.frame (class_frame_size c));
  method = capped (larger s.method (largest_words (class_bodies c)));
  text = plus s.text (all_words (class_bodies c));
  relocations = plus s.relocations (all_relocations (class_bodies c));
  tables = plus s.tables (initialiser_word + length (class_entries c));
  records = plus s.records (class_record_size c);
  names = plus s.names (class_names_size c);
}

unfoldable pub with_classes : Sums → List PlainClass → Sums
with_classes s [] = s
with_classes s (c ∷ rest) = with_classes (with_class s c) rest
