-- Where a member is that a reference of code names (JVMS 5.4.3).
use Rattle.std.specs.Prelude.{◌≡◌, ℕ, Bool, if◌then◌else◌}
use Rattle.bcj_hier_rules.specs.Shapes.{Named}
use Rattle.bcj_hier_rules.specs.Heads.{IsIn, name_of}
use Rattle.bcj_hier_rules.specs.Resolution.{FoundField}
use Rattle.bcj_hier_rules.specs.declared.class_id.ClassId.{ClassId}
use Rattle.bcj_layout_rules.specs.Rows.{Classes}
use Rattle.bcj_layout_rules.specs.Entries.{address_of_field, offset_of_field}
use Rattle.bcj_layout_resolution.specs.Places.{heads_in}
use Rattle.bcj_layout_resolution.specs.declared.member.FieldId.{FieldId}
use Rattle.bcj_layout.specs.declared.place.FieldPlace.{FieldPlace}

-- the field with this number in the record of a class
abbrev pub field_numbered : ClassId → ℕ → FieldId
field_numbered c field = record { class = c; field = field }

-- the address of a field that is asked for as a static one, and else its offset in objects
abbrev pub at_of_field : Classes → Named → Bool → FoundField → ℕ
at_of_field cs main is_static x = if is_static then address_of_field cs main x else offset_of_field cs main x

-- the class that declares a field, and where it is
pub record IsFieldPlace (cs : Classes) (main : Named) (is_static : Bool) (p : FieldPlace) (x : FoundField) : Type 0 where
  pub there : IsIn (heads_in cs) p.class
  pub named : name_of (heads_in cs) p.class ≡ x.class
  pub place : p.at ≡ at_of_field cs main is_static x
