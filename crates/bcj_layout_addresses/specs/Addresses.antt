-- The addresses that are kept of members, by the definitions of where they lie.
use Rattle.std.specs.Prelude.{◌≡◌, ℕ, Bool, List, length, map, slice_get, Some, if◌then◌else◌}
use Rattle.bcj_tables_rules.specs.declared.records.FieldRecord.{FieldRecord}
use Rattle.bcj_tables_rules.specs.declared.records.ClassRecord.{ClassRecord}
use Rattle.bcj_hier_rules.specs.Shapes.{Named, field_of_record}
use Rattle.bcj_hier_rules.specs.Trees.{loads}
use Rattle.bcj_hier_rules.specs.Resolution.{FoundField}
use Rattle.bcj_layout_rules.specs.Rows.{Classes, mixture_of}
use Rattle.bcj_layout_rules.specs.Places.{method_at}
use Rattle.bcj_layout_rules.specs.Entries.{address_in, address_of_field, offset_of_field}
use Rattle.bcj_layout_addresses.specs.declared.addresses.Addresses.{Addresses}

-- a field of a record, as a search finds it
abbrev pub field_in : ClassRecord → FieldRecord → FoundField
field_in c f = record { class = c.head.name; field = field_of_record f }

module _ (cs : Classes) (main : Named) where
  -- by the number of the class
  abbrev pub own_addresses : ℕ → ClassRecord → List ℕ
  own_addresses k c = map (method_at cs main k c) c.methods

  abbrev pub method_addresses : ClassRecord → List ℕ
  method_addresses c = map (λ m. address_in cs main c.head.name m.name m.desc) c.methods

  -- where a static field is, or another field in an object of a type that loads
  abbrev pub field_place : ClassRecord → FieldRecord → ℕ
  field_place c f =
      if f.is_static
      then address_of_field cs main (field_in c f)
      else if loads (mixture_of cs) c.head.name then offset_of_field cs main (field_in c f) else 0

  abbrev pub field_places : ClassRecord → List ℕ
  field_places c = map (field_place c) c.fields

pub record AreAddresses (cs : Classes) (main : Named) (a : Addresses) : Type 0 where
  pub own_count : length a.own ≡ length cs
  pub own : (k : ℕ) (c : ClassRecord) → slice_get cs k ≡ Some c → slice_get a.own k ≡ Some (own_addresses cs main k c)
  pub methods : a.methods ≡ map (method_addresses cs main) cs
  pub fields : a.fields ≡ map (field_places cs main) cs
