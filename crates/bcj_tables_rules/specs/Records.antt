-- What is asked of a class and of the records of an object.
use Rattle.std.specs.Prelude.{◌≡◌, ℕ, ◌+◌, ◌*◌, ◌-◌, List, [], ◌∷◌, length, Bool, true, not, ◌&&◌, ◌||◌, ◌==◌, Option, Ok, Err, if◌then◌else◌}
use Rattle.std.specs.Str.{bytes_eq}
use Rattle.bcj_names.specs.Identifiers.{is_identifier}
use Rattle.bcj_symbolic_trees.specs.Names.{object_name}
use Rattle.bcj_symbolic_trees.specs.declared.class_tree.ClassHead.{ClassHead}
use Rattle.bcj_tables_rules.specs.declared.stop.Stop.TheVariants.{Bad}
use Rattle.bcj_tables_rules.specs.declared.codes.ClassFlags.{ClassFlags}
use Rattle.bcj_tables_rules.specs.declared.parts.ClassPlace.{ClassPlace}
use Rattle.bcj_tables_rules.specs.declared.parts.Tables.{Tables}
use Rattle.bcj_tables_rules.specs.declared.records.FieldRecord.{FieldRecord}
use Rattle.bcj_tables_rules.specs.declared.records.MethodRecord.{MethodRecord}
use Rattle.bcj_tables_rules.specs.declared.records.Range.{Range}
use Rattle.bcj_tables_rules.specs.declared.records.PairRecord.{PairRecord}
use Rattle.bcj_tables_rules.specs.declared.records.CEntry.{CEntry}
use Rattle.bcj_tables_rules.specs.declared.records.OEntry.{OEntry}
use Rattle.bcj_tables_rules.specs.declared.records.AEntry.{AEntry}
use Rattle.bcj_tables_rules.specs.declared.records.IEntry.{IEntry}
use Rattle.bcj_tables_rules.specs.declared.records.ClassRecord.{ClassRecord}
use Rattle.bcj_tables_rules.specs.declared.records.Records.{Records}
use Rattle.bcj_tables_rules.specs.Codes.{class_flags_number, class_flags_of}
use Rattle.bcj_tables_rules.specs.Texts.{is_empty}
use Rattle.bcj_tables_rules.specs.Steps.{Reader, then_read}
use Rattle.bcj_tables_rules.specs.Format.{Format, word_field, text_field, made, code_field, ◌>>◌, list_of, plain_list}
use Rattle.bcj_tables_rules.specs.Members.{always, fields_format, methods_format}
use Rattle.bcj_tables_rules.specs.Entries.{option_field, range_format, pair_format, centry_format, oentry_format, aentry_format, member_format}

-- ---- a class

-- Object and interfaces have no superclass, and every other class has one
unfoldable pub is_superclass : List ℕ → Bool → List ℕ → Bool
is_superclass name interface superclass = if interface || bytes_eq name object_name then is_empty superclass else is_identifier superclass

abbrev pub head_from : List ℕ × (ClassFlags × (Option (List ℕ) × List (List ℕ))) → ClassHead
head_from p = record { name = p.0; interface = p.1.0.interface; is_abstract = p.1.0.is_abstract; superclass = p.1.1.0; interfaces = p.1.1.1 }

abbrev pub head_parts : ClassHead → List ℕ × (ClassFlags × (Option (List ℕ) × List (List ℕ)))
head_parts h = (h.name, (record { interface = h.interface; is_abstract = h.is_abstract }, (h.superclass, h.interfaces)))

abbrev pub is_name : List ℕ → List ℕ → Bool
is_name name text = bytes_eq text name

-- the name is that of the class's symbols
unfoldable pub head_format : List ℕ → Format ClassHead
head_format name =
    made always head_from head_parts
    (text_field (is_name name)
    >> (λ _. code_field class_flags_number class_flags_of always
    >> (λ flags. option_field (is_superclass name flags.interface)
    >> (λ _. plain_list (text_field is_identifier)))))

-- one word for the class and one for each entry, as the object has them
unfoldable pub is_region : ClassPlace → ℕ → ℕ → Bool
is_region p at entries = p.is_clean && at == p.table && p.table_size == 4 * (1 + entries)

abbrev pub is_table : ClassPlace → ℕ → ℕ → Bool
is_table p entries at = is_region p at entries

abbrev pub tables_from : List CEntry × (List OEntry × (List AEntry × (List IEntry × ℕ))) → Tables
tables_from p = record { ctable = p.0; otable = p.1.0; atable = p.1.1.0; itable = p.1.1.1.0; table = p.1.1.1.1 }

abbrev pub tables_parts : Tables → List CEntry × (List OEntry × (List AEntry × (List IEntry × ℕ)))
tables_parts t = (t.ctable, (t.otable, (t.atable, (t.itable, t.table))))

unfoldable pub tables_format : ClassPlace → Format Tables
tables_format p =
    made always tables_from tables_parts
    (plain_list centry_format
    >> (λ cs. plain_list oentry_format
    >> (λ os. plain_list aentry_format
    >> (λ adrs. plain_list (member_format true)
    >> (λ is. word_field (is_table p (length cs + length os + length adrs + length is)))))))

-- members may be private in a class of version 2
abbrev pub is_open : ℕ → ClassHead → Bool
is_open version head = version == 2 && not head.interface

abbrev pub class_from : ClassHead × (List FieldRecord × (List MethodRecord × (List Range × (List PairRecord × Tables)))) → ClassRecord
class_from p = record {
  head = p.0;
  fields = p.1.0;
  methods = p.1.1.0;
  ranges = p.1.1.1.0;
  pairs = p.1.1.1.1.0;
  ctable = p.1.1.1.1.1.ctable;
  otable = p.1.1.1.1.1.otable;
  atable = p.1.1.1.1.1.atable;
  itable = p.1.1.1.1.1.itable;
  table = p.1.1.1.1.1.table;
}

abbrev pub class_parts : ClassRecord → ClassHead × (List FieldRecord × (List MethodRecord × (List Range × (List PairRecord × Tables))))
class_parts c = (c.head, (c.fields, (c.methods, (c.ranges, (c.pairs, record { ctable = c.ctable; otable = c.otable; atable = c.atable; itable = c.itable; table = c.table })))))

unfoldable pub class_format : ℕ → ClassPlace → List ℕ → Format ClassRecord
class_format version p name =
    made always class_from class_parts
    (head_format name
    >> (λ head. fields_format (is_open version head)
    >> (λ _. methods_format p (is_open version head)
    >> (λ methods. plain_list (range_format methods)
    >> (λ _. plain_list pair_format
    >> (λ _. tables_format p))))))

-- ---- the records of an object

-- what the object says of its classes outside the records, by their number
pub record Outside : Type 0 where
  pub count : ℕ
  pub place : ℕ → ClassPlace
  pub name : ℕ → List ℕ

unfoldable pub classes_format : Outside → ℕ → Format (List ClassRecord)
classes_format o version = list_of (λ count. count == o.count) (λ _ before. class_format version (o.place (length before)) (o.name (length before)))

abbrev pub is_version : ℕ → Bool
is_version version = version == 1 || version == 2

abbrev pub records_from : ℕ × List ClassRecord → Records
records_from p = record { version = p.0; classes = p.1 }

abbrev pub records_parts : Records → ℕ × List ClassRecord
records_parts r = (r.version, r.classes)

unfoldable pub records_format : Outside → Format Records
records_format o = made always records_from records_parts (word_field is_version >> classes_format o)

-- nothing stands behind the records
abbrev pub whole : Records → Reader Records
whole r [] = (Ok r, [])
whole r (b ∷ left) = (Err Bad, b ∷ left)

unfoldable pub records_reading : Outside → Reader Records
records_reading o bytes = then_read ((records_format o).reads bytes) whole

-- each field is as the object and the fields before it ask
abbrev pub Meets : Outside → Records → Type 0
Meets o r = (records_format o).meets r ≡ true

-- The field at this offset is the first one, in the order of reading, that isn't as it must be by the fields before it.
abbrev pub IsFirstBad : Outside → List ℕ → ℕ → Type 0
IsFirstBad o bytes at = (left : List ℕ) × ((records_reading o bytes ≡ (Err Bad, left)) × (at ≡ length bytes - length left))
