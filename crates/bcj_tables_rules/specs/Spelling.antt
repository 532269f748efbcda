-- The one spelling of records: numbers little-endian, lists behind their count, texts behind their length.
use Rattle.std.specs.Prelude.{ℕ, List, [], ◌∷◌, ◌++◌, length, Option, Some, None}
use Rattle.std.specs.List.{flat_map}
use Rattle.std.specs.Int.{w32, to_le_bytes}
use Rattle.bcj_symbolic_trees.specs.declared.class_tree.ClassHead.{ClassHead}
use Rattle.bcj_tables_rules.specs.declared.records.FieldRecord.{FieldRecord}
use Rattle.bcj_tables_rules.specs.declared.records.MethodRecord.{MethodRecord}
use Rattle.bcj_tables_rules.specs.declared.records.Range.{Range}
use Rattle.bcj_tables_rules.specs.declared.records.PairRecord.{PairRecord}
use Rattle.bcj_tables_rules.specs.declared.records.CEntry.{CEntry}
use Rattle.bcj_tables_rules.specs.declared.records.OEntry.{OEntry}
use Rattle.bcj_tables_rules.specs.declared.records.AEntry.{AEntry}
use Rattle.bcj_tables_rules.specs.declared.records.IEntry.{IEntry}
use Rattle.bcj_tables_rules.specs.declared.records.ClassRecord.{ClassRecord}
use Rattle.bcj_tables_rules.specs.declared.records.Records.{Records}
use Rattle.bcj_tables_rules.specs.declared.parts.Tables.{Tables}
use Rattle.bcj_tables_rules.specs.Codes.{bit, class_flags_number, field_flags_number, method_code_number, address_number}

unfoldable pub word : ℕ → List ℕ
word n = to_le_bytes w32 n

abbrev pub text : List ℕ → List ℕ
text t = word (length t) ++ t

-- none is the empty text
abbrev pub text_of_option : Option (List ℕ) → List ℕ
text_of_option None = []
text_of_option (Some t) = t

abbrev pub list : {A : Type 0} → (A → List ℕ) → List A → List ℕ
list one xs = word (length xs) ++ flat_map one xs

-- name, flags, superclass, interfaces
unfoldable pub head_bytes : ClassHead → List ℕ
head_bytes h = text h.name ++ (class_flags_number (record { interface = h.interface; is_abstract = h.is_abstract }) ∷ [] ++ (text (text_of_option h.superclass) ++ list text h.interfaces))

-- name, type, flags, value
unfoldable pub field_bytes : FieldRecord → List ℕ
field_bytes f =
    text f.name ++ (text f.ty
    ++ (field_flags_number (record { is_static = f.is_static; is_final = f.is_final; is_private = f.is_private; is_constant = f.is_constant }) ∷ [] ++ word f.value))

-- name, descriptor, kind, entry, words, frame
unfoldable pub method_bytes : MethodRecord → List ℕ
method_bytes m =
    text m.name ++ (text m.desc
    ++ (method_code_number (record { kind = m.kind; is_private = m.is_private }) ∷ [] ++ (word m.entry ++ (word m.words ++ word m.frame))))

-- method, start, end, target, class
unfoldable pub range_bytes : Range → List ℕ
range_bytes r = word r.method ++ (word r.start ++ (word r.end ++ (word r.target ++ text (text_of_option r.class))))

abbrev pub pair_bytes : PairRecord → List ℕ
pair_bytes p = text p.from ++ text p.to

abbrev pub centry_bytes : CEntry → List ℕ
centry_bytes e = bit e.is_new ∷ [] ++ text e.ty

-- class, name, descriptor
abbrev pub member_bytes : List ℕ → List ℕ → List ℕ → List ℕ
member_bytes class name desc = text class ++ (text name ++ text desc)

abbrev pub oentry_bytes : OEntry → List ℕ
oentry_bytes e = bit e.is_method ∷ [] ++ member_bytes e.class e.name e.desc

abbrev pub aentry_bytes : AEntry → List ℕ
aentry_bytes e = address_number e.kind ∷ [] ++ member_bytes e.class e.name e.desc

abbrev pub ientry_bytes : IEntry → List ℕ
ientry_bytes e = member_bytes e.class e.name e.desc

-- ctable, otable, atable, itable, table
unfoldable pub tables_bytes : Tables → List ℕ
tables_bytes t = list centry_bytes t.ctable ++ (list oentry_bytes t.otable ++ (list aentry_bytes t.atable ++ (list ientry_bytes t.itable ++ word t.table)))

abbrev pub tables_of : ClassRecord → Tables
tables_of c = record { ctable = c.ctable; otable = c.otable; atable = c.atable; itable = c.itable; table = c.table }

-- head, fields, methods, ranges, pairs, tables
unfoldable pub class_bytes : ClassRecord → List ℕ
class_bytes c = head_bytes c.head ++ (list field_bytes c.fields ++ (list method_bytes c.methods ++ (list range_bytes c.ranges ++ (list pair_bytes c.pairs ++ tables_bytes (tables_of c)))))

-- version, classes
unfoldable pub spelling : Records → List ℕ
spelling r = word r.version ++ list class_bytes r.classes
