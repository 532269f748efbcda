-- Members by numbers, beside those that searches find.
use Rattle.std.specs.Prelude.{◌≡◌, List, map, slice_get, Some}
use Rattle.bcj_symbolic_trees.specs.declared.class_tree.ClassHead.{ClassHead}
use Rattle.bcj_tables_rules.specs.declared.records.FieldRecord.{FieldRecord}
use Rattle.bcj_tables_rules.specs.declared.records.MethodRecord.{MethodRecord}
use Rattle.bcj_tables_rules.specs.declared.records.ClassRecord.{ClassRecord}
use Rattle.bcj_hier_rules.specs.Shapes.{Named, field_of_record, method_of_record, Reference}
use Rattle.bcj_hier_rules.specs.Resolution.{FoundField, FoundMethod}
use Rattle.bcj_layout_rules.specs.Rows.{Classes}
use Rattle.bcj_layout_resolution.specs.declared.member.FieldId.{FieldId}
use Rattle.bcj_layout_resolution.specs.declared.member.MethodId.{MethodId}

abbrev pub heads_in : Classes → List ClassHead
heads_in cs = map (λ c. c.head) cs

abbrev pub wanted : Named → Named → Named → Reference
wanted class name desc = record { class = class; name = name; desc = desc }

-- the field with this number in the record of its class
pub record IsField (cs : Classes) (f : FieldId) (x : FoundField) : Type 0 where
  pub class : ClassRecord
  pub record_of : slice_get cs f.class.0 ≡ Some class
  pub field : FieldRecord
  pub there : slice_get class.fields f.field ≡ Some field
  pub named : x.class ≡ class.head.name
  pub is_it : x.field ≡ field_of_record field

-- the method with this number in the record of its class; the class initialiser is number 0 and never found
pub record IsMethod (cs : Classes) (f : MethodId) (x : FoundMethod) : Type 0 where
  pub class : ClassRecord
  pub record_of : slice_get cs f.class.0 ≡ Some class
  pub method : MethodRecord
  pub there : slice_get class.methods f.method ≡ Some method
  pub named : x.class ≡ class.head.name
  pub is_it : x.method ≡ method_of_record method
