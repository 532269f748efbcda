use Rattle.std.proofs.Common.{◌≡◌, ◌*◌, ◌-◌, length}
use Rattle.bcj_elf.specs.Plain.{plain}
use Rattle.bcj_tables_rules.specs.Format.{reads_items}
use Rattle.bcj_tables_rules.specs.Records.{class_format, classes_format}
use Rattle.bcj_tables.specs.Places.{outside_of, place_of, class_name}
use Rattle.bcj_tables.proofs.reading.read_classes.Given as goal

abbrev pub invariant-loop-class : goal.invariant-loop-class
invariant-loop-class l = record {
  read : (classes_format (outside_of (plain l.o)) l.version).reads l.fn.cursor
      ≡ reads_items (λ before. class_format l.version (place_of (plain l.o) (length before)) (class_name (plain l.o) (2 * length before))) (l.count - l.class) l.found l.cursor;
  size : length l.found ≡ l.class;
}
