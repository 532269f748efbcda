-- Where a field is, by what it is.
use Rattle.std.proofs.Common.{◌≡◌, ℕ, Bool, true, false, cond, List, map, slice_get, Some, sym, ◌∙◌, ap}
use Rattle.bcj_tables_rules.specs.declared.records.FieldRecord.{FieldRecord}
use Rattle.bcj_tables_rules.specs.declared.records.ClassRecord.{ClassRecord}
use Rattle.bcj_hier_rules.specs.declared.class_id.ClassId.{ClassId}
use Rattle.bcj_hier_rules.specs.Shapes.{Field, field_of_record}
use Rattle.bcj_hier_rules.specs.Heads.{name_of}
use Rattle.bcj_hier_rules.specs.Trees.{loads}
use Rattle.bcj_layout_rules.specs.Members.{field_number}
use Rattle.bcj_layout_rules.specs.Rows.{Classes, mixture_of}
use Rattle.bcj_layout_rules.specs.Entries.{field_offset}
use Rattle.bcj_layout_resolution.specs.Places.{heads_in}
use Rattle.bcj_layout_addresses.specs.Lists.{static_place, place_in, fields_by, AreFieldsOf}
use Rattle.bcj_layout_addresses.proofs.Classes.{name_there}

-- a static one
pub at_static : (statics : ℕ) (is_loaded : Bool) (number : Field → ℕ) (fields : List FieldRecord) (f : FieldRecord) → f.is_static ≡ true
    → place_in statics is_loaded number fields f ≡ static_place statics fields f
at_static statics is_loaded number fields f it =
    ap (λ b. cond b (static_place statics fields f) (cond is_loaded (field_offset (number (field_of_record f))) 0)) it

-- one of a class that loads
pub at_offset : (statics : ℕ) (is_loaded : Bool) (number : Field → ℕ) (fields : List FieldRecord) (f : FieldRecord) → f.is_static ≡ false → is_loaded ≡ true
    → place_in statics is_loaded number fields f ≡ field_offset (number (field_of_record f))
at_offset statics is_loaded number fields f other it =
    ap (λ b. cond b (static_place statics fields f) (cond is_loaded (field_offset (number (field_of_record f))) 0)) other ∙ ap (λ b. cond b (field_offset (number (field_of_record f))) 0) it

-- one of a class that doesn't
pub at_nothing : (statics : ℕ) (is_loaded : Bool) (number : Field → ℕ) (fields : List FieldRecord) (f : FieldRecord) → f.is_static ≡ false → is_loaded ≡ false
    → place_in statics is_loaded number fields f ≡ 0
at_nothing statics is_loaded number fields f other it =
    ap (λ b. cond b (static_place statics fields f) (cond is_loaded (field_offset (number (field_of_record f))) 0)) other ∙ ap (λ b. cond b (field_offset (number (field_of_record f))) 0) it

-- the fields of a class, by its number
pub fields_at : (cs : Classes) (id : ClassId) (statics : ℕ) (is_loaded : Bool) (fields : List FieldRecord) (c : ClassRecord) → slice_get cs id.0 ≡ Some c
    → is_loaded ≡ loads (mixture_of cs) (name_of (heads_in cs) id) → AreFieldsOf cs id fields
    → map (place_in statics is_loaded (field_number (mixture_of cs) (name_of (heads_in cs) id)) fields) fields ≡ fields_by statics cs c
fields_at cs id statics is_loaded fields c there loaded are =
    let named : name_of (heads_in cs) id ≡ c.head.name = name_there cs id c there in
    let both : Some are.class ≡ Some c = sym are.record_of ∙ there in
    let same : are.class ≡ c = cc in
    let all : fields ≡ c.fields = are.all ∙ ap (λ r. r.fields) same in
    let loading : is_loaded ≡ loads (mixture_of cs) c.head.name = loaded ∙ ap (loads (mixture_of cs)) named in
    λ i. map (place_in statics (loading i) (field_number (mixture_of cs) (named i)) (all i)) (all i)
