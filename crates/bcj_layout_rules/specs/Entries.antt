-- What an entry of a table becomes when its class is linked: a word that isn't 0, or the error of what it names.
use Rattle.std.specs.Prelude.{ℕ, ◌+◌, ◌*◌, nat_lt, Bool, true, false, List, Option, None, Some, Result, Ok, Err, if◌then◌else◌}
use Rattle.std.specs.List.{find}
use Rattle.std.specs.Option.{option_map_or}
use Rattle.std.specs.Str.{bytes_eq}
use Rattle.bcj_symbolic_trees.specs.Types.{PlainTy}
use Rattle.bcj_tables_rules.specs.declared.records.CEntry.{CEntry}
use Rattle.bcj_tables_rules.specs.declared.records.OEntry.{OEntry}
use Rattle.bcj_tables_rules.specs.declared.records.AEntryKind.{AEntryKind}
use Rattle.bcj_tables_rules.specs.declared.records.AEntryKind.TheVariants as address
use Rattle.bcj_tables_rules.specs.declared.records.AEntry.{AEntry}
use Rattle.bcj_tables_rules.specs.declared.records.IEntry.{IEntry}
use Rattle.bcj_tables_rules.specs.declared.records.MethodRecord.{MethodRecord}
use Rattle.bcj_tables_rules.specs.declared.records.ClassRecord.{ClassRecord}
use Rattle.bcj_symbolic_trees.specs.Names.{constructor_name}
use Rattle.bcj_hier_rules.specs.declared.call_kind.CallKind.{CallKind}
use Rattle.bcj_hier_rules.specs.declared.call_kind.CallKind.TheVariants as call
use Rattle.bcj_hier_rules.specs.declared.link_error.LinkError.{LinkError}
use Rattle.bcj_hier_rules.specs.Shapes.{Named, Reference, type_of_text}
use Rattle.bcj_hier_rules.specs.Resolution.{FoundField, FoundMethod, resolved_field, resolved_method, resolved_interface, type_error}
use Rattle.bcj_layout_rules.specs.Members.{slot_number, field_number}
use Rattle.bcj_layout_rules.specs.Rows.{Classes, mixture_of, row_number, selector}
use Rattle.bcj_layout_rules.specs.Places.{word_size, record_of, index_of, row_at, row_head, method_at, static_at}

abbrev pub mapped : {A B : Type 0} → (A → B) → Result A LinkError → Result B LinkError
mapped f (Ok x) = Ok (f x)
mapped f (Err e) = Err e

-- a word where there is no error
abbrev pub unless_error : Option LinkError → ℕ → Result ℕ LinkError
unless_error None w = Ok w
unless_error (Some e) w = Err e

-- the offset of a field in an object, behind the word with its row; where it is past 32 bits, the last multiple of 4, which no object has
abbrev pub last_offset : ℕ
last_offset = 4294967292

abbrev pub bounded : ℕ → ℕ
bounded n = if nat_lt last_offset n then last_offset else n

abbrev pub field_offset : ℕ → ℕ
field_offset number = bounded (word_size + word_size * number)

-- the offset of a slot in a row
abbrev pub slot_offset : ℕ → ℕ
slot_offset number = word_size * row_head + word_size * number

module _ (cs : Classes) (main : Named) where
  -- ---- types

  abbrev pub row_of : PlainTy → ℕ
  row_of t = row_at cs main (option_map_or (λ n. n) (row_number cs t) 0)

  abbrev pub ctable_word : CEntry → Result ℕ LinkError
  ctable_word e = unless_error (type_error (mixture_of cs) (type_of_text e.ty) e.is_new) (row_of (type_of_text e.ty))

  -- ---- offsets

  abbrev pub offset_of_field : FoundField → ℕ
  offset_of_field f = field_offset (field_number (mixture_of cs) f.class f.field)

  -- the slot of the method that was found: a private one has its own, any other that of its name in the rows of the type that is named
  abbrev pub slot_of : Reference → FoundMethod → Option ℕ
  slot_of r f =
      if f.method.is_private
      then slot_number (mixture_of cs) f.class (record { name = f.method.name; desc = f.method.desc; owner = Some f.class })
      else slot_number (mixture_of cs) r.class (record { name = f.method.name; desc = f.method.desc; owner = None })

  abbrev pub offset_of_method : Reference → FoundMethod → ℕ
  offset_of_method r f = slot_offset (option_map_or (λ n. n) (slot_of r f) 0)

  abbrev pub offset_reference : OEntry → Reference
  offset_reference e = record { class = e.class; name = e.name; desc = e.desc }

  -- by code of the class `from`
  abbrev pub otable_word : Named → OEntry → Result ℕ LinkError
  otable_word from e =
      if e.is_method
      then mapped (offset_of_method (offset_reference e)) (resolved_method (mixture_of cs) from (offset_reference e) call.Instance)
      else mapped offset_of_field (resolved_field (mixture_of cs) from (offset_reference e) false)

  -- ---- addresses

  abbrev pub address_of_field : FoundField → ℕ
  address_of_field f = option_map_or (λ c. static_at cs main (index_of cs f.class) c f.field.name f.field.desc) (record_of cs f.class) 0

  abbrev pub is_record : Named → List ℕ → MethodRecord → Bool
  is_record name desc m = if bytes_eq m.name name then bytes_eq m.desc desc else false

  abbrev pub method_of : ClassRecord → Named → List ℕ → Option MethodRecord
  method_of c name desc = find (is_record name desc) c.methods

  abbrev pub address_in : Named → Named → List ℕ → ℕ
  address_in class name desc =
      option_map_or (λ c. option_map_or (method_at cs main (index_of cs class) c) (method_of c name desc) 0) (record_of cs class) 0

  abbrev pub address_of_method : FoundMethod → ℕ
  address_of_method f = address_in f.class f.method.name f.method.desc

  -- a constructor is named `<init>`
  abbrev pub special_kind : Named → CallKind
  special_kind name = if bytes_eq name constructor_name then call.Constructor else call.Special

  abbrev pub address_reference : AEntry → Reference
  address_reference e = record { class = e.class; name = e.name; desc = e.desc }

  abbrev pub address_word : Named → AEntryKind → Reference → Result ℕ LinkError
  address_word from address.Field r = mapped address_of_field (resolved_field (mixture_of cs) from r true)
  address_word from address.StaticMethod r = mapped address_of_method (resolved_method (mixture_of cs) from r call.Static)
  address_word from address.Special r = mapped address_of_method (resolved_method (mixture_of cs) from r (special_kind r.name))

  abbrev pub atable_word : Named → AEntry → Result ℕ LinkError
  atable_word from e = address_word from e.kind (address_reference e)

  -- ---- selectors

  abbrev pub selector_word : Reference → ℕ
  selector_word r = word_size * option_map_or (λ n. n) (selector cs r) 0

  abbrev pub interface_entry : IEntry → Reference
  interface_entry e = record { class = e.class; name = e.name; desc = e.desc }

  abbrev pub itable_word : Named → IEntry → Result ℕ LinkError
  itable_word from e = mapped (λ f. selector_word (interface_entry e)) (resolved_interface (mixture_of cs) from (interface_entry e))
