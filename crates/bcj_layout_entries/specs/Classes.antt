-- The class that an entry stands for, by which it is initialised: that of a class entry of no array type, and the one that declares the member of an
-- address entry.
use Rattle.std.specs.Prelude.{true, List, [], ◌++◌, map, is_none, Option, None, Some, Result, Ok, Err, if◌then◌else◌}
use Rattle.bcj_symbolic_trees.specs.Types.{PlainTy, class_type}
use Rattle.bcj_tables_rules.specs.declared.records.CEntry.{CEntry}
use Rattle.bcj_tables_rules.specs.declared.records.AEntryKind.{AEntryKind}
use Rattle.bcj_tables_rules.specs.declared.records.AEntryKind.TheVariants as address
use Rattle.bcj_tables_rules.specs.declared.records.AEntry.{AEntry}
use Rattle.bcj_tables_rules.specs.declared.records.ClassRecord.{ClassRecord}
use Rattle.bcj_hier_rules.specs.declared.call_kind.CallKind.TheVariants as call
use Rattle.bcj_hier_rules.specs.declared.link_error.LinkError.{LinkError}
use Rattle.bcj_hier_rules.specs.Shapes.{Named, Reference, type_of_text}
use Rattle.bcj_hier_rules.specs.Resolution.{FoundField, FoundMethod, resolved_field, resolved_method, type_error}
use Rattle.bcj_layout_rules.specs.Rows.{Classes, mixture_of}
use Rattle.bcj_layout_rules.specs.Entries.{special_kind, address_reference}

abbrev pub class_of_type : PlainTy → Option Named
class_of_type (class_type name) = Some name
class_of_type _ = None

abbrev pub class_of_field : Result FoundField LinkError → Option Named
class_of_field (Ok f) = Some f.class
class_of_field (Err e) = None

abbrev pub class_of_method : Result FoundMethod LinkError → Option Named
class_of_method (Ok f) = Some f.class
class_of_method (Err e) = None

abbrev pub no_class : {A : Type 0} → A → Option Named
no_class e = None

module _ (cs : Classes) where
  abbrev pub ctable_class : CEntry → Option Named
  ctable_class e = if is_none (type_error (mixture_of cs) (type_of_text e.ty) e.is_new) then class_of_type (type_of_text e.ty) else None

  abbrev pub address_class : Named → AEntryKind → Reference → Option Named
  address_class from address.Field r = class_of_field (resolved_field (mixture_of cs) from r true)
  address_class from address.StaticMethod r = class_of_method (resolved_method (mixture_of cs) from r call.Static)
  address_class from address.Special r = class_of_method (resolved_method (mixture_of cs) from r (special_kind cs [] r.name))

  abbrev pub atable_class : Named → AEntry → Option Named
  atable_class from e = address_class from e.kind (address_reference cs [] e)

  -- in the order of a class's tables
  abbrev pub entry_classes : ClassRecord → List (Option Named)
  entry_classes c =
      map ctable_class c.ctable ++ (map no_class c.otable ++ (map (atable_class c.head.name) c.atable ++ map no_class c.itable))
