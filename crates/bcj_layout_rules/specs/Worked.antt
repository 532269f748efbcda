-- Examples: slots and fields of a small mixture, and the places of an image of two classes, worked out by hand.
use Rattle.std.specs.Prelude.{◌≡◌, refl, ℕ, true, false, List, [], ◌∷◌, Option, None, Some, Ok, Err, codes}
use Rattle.bcj_symbolic_trees.specs.declared.class_tree.MethodKind.TheVariants as kind
use Rattle.bcj_symbolic_trees.specs.Types.{class_type}
use Rattle.bcj_tables_rules.specs.declared.records.FieldRecord.{FieldRecord}
use Rattle.bcj_tables_rules.specs.declared.records.MethodRecord.{MethodRecord}
use Rattle.bcj_tables_rules.specs.declared.records.AEntryKind.TheVariants as address
use Rattle.bcj_tables_rules.specs.declared.records.ClassRecord.{ClassRecord}
use Rattle.bcj_hier_rules.specs.declared.link_error.LinkError.TheVariants as error
use Rattle.bcj_hier_rules.specs.Shapes.{Named}
use Rattle.bcj_hier_rules.specs.Rows.{some}
use Rattle.bcj_layout_rules.specs.Members.{slots, field_count}
use Rattle.bcj_layout_rules.specs.Rows.{Classes, row_types}
use Rattle.bcj_layout_rules.specs.Places.{image_words, method_at, rows_at, dispatch_at, tables_at, region_at, read_only_end, heap_at}
use Rattle.bcj_layout_rules.specs.Entries.{ctable_word, atable_word}

-- B has the slots of A, of which p is A's own, and one for its own p
pub slots_row : slots some (codes "B")
    ≡ record { name = codes "m"; desc = codes "()V"; owner = None }
    ∷ record { name = codes "p"; desc = codes "()V"; owner = Some (codes "A") }
    ∷ record { name = codes "p"; desc = codes "()V"; owner = None }
    ∷ []
slots_row = refl

pub fields_row : field_count some (codes "B") ≡ 1
fields_row = refl

abbrev pub method_with : Named → List ℕ → ℕ → ℕ → MethodRecord
method_with name desc entry words = record { name = name; desc = desc; kind = kind.Static; is_private = false; entry = entry; words = words; frame = 1 }

abbrev pub class_with : Named → Option Named → List FieldRecord → List MethodRecord → ClassRecord
class_with name superclass fields methods = record {
  head = record { name = name; interface = false; is_abstract = false; superclass = superclass; interfaces = [] };
  fields = fields;
  methods = methods;
  ranges = [];
  pairs = [];
  ctable = record { is_new = false; ty = codes "LM;" } ∷ record { is_new = false; ty = codes "[LGone;" } ∷ [];
  otable = [];
  atable = record { kind = address.StaticMethod; class = codes "M"; name = codes "main"; desc = codes "()V" }
      ∷ record { kind = address.Field; class = codes "M"; name = codes "n"; desc = codes "I" } ∷ [];
  itable = [];
  table = 0;
}

-- Object with an initialiser of 2 words, and M with one of 3, a main of 5 and a static field
abbrev pub two : Classes
two =
    class_with (codes "Object") None [] (method_with (codes "<clinit>") (codes "()V") 0 2 ∷ [])
    ∷ class_with (codes "M") (Some (codes "Object"))
    (record { name = codes "n"; ty = codes "I"; is_static = true; is_final = false; is_private = true; is_constant = false; value = 0 } ∷ [])
    (method_with (codes "<clinit>") (codes "()V") 0 3 ∷ method_with (codes "main") (codes "()V") 12 5 ∷ [])
    ∷ []

-- the start code for main() and ten words
pub words_row : image_words two (codes "M") ≡ 33
words_row = refl

-- no String is there, so no array of it has a row
pub types_row : row_types two ≡ class_type (codes "Object") ∷ class_type (codes "M") ∷ []
types_row = refl

pub main_row : method_at two (codes "M") 1 (class_with (codes "M") None [] (method_with (codes "<clinit>") (codes "()V") 0 3 ∷ [])) (method_with (codes "main") (codes "()V") 12 5) ≡ 128
main_row = refl

pub rows_row : rows_at two (codes "M") ≡ 148
rows_row = refl

pub dispatch_row : dispatch_at two (codes "M") ≡ 180
dispatch_row = refl

pub tables_row : tables_at two (codes "M") ≡ 184
tables_row = refl

pub region_row : region_at two (codes "M") 1 ≡ 216
region_row = refl

pub end_row : read_only_end two (codes "M") ≡ 236
end_row = refl

pub heap_row : heap_at two (codes "M") ≡ 240
heap_row = refl

pub type_row : ctable_word two (codes "M") (record { is_new = false; ty = codes "LM;" }) ≡ Ok 164
type_row = refl

pub gone_row : ctable_word two (codes "M") (record { is_new = false; ty = codes "[LGone;" }) ≡ Err error.NoClassDefFound
gone_row = refl

pub call_row : atable_word two (codes "M") (codes "Object") (record { kind = address.StaticMethod; class = codes "M"; name = codes "main"; desc = codes "()V" }) ≡ Ok 128
call_row = refl

pub private_row : atable_word two (codes "M") (codes "Object") (record { kind = address.Field; class = codes "M"; name = codes "n"; desc = codes "I" })
    ≡ Err error.IllegalAccess
private_row = refl

pub static_row : atable_word two (codes "M") (codes "M") (record { kind = address.Field; class = codes "M"; name = codes "n"; desc = codes "I" }) ≡ Ok 236
static_row = refl
