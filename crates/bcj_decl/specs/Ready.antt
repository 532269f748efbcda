-- What a declared world keeps: its types are those of the units, nothing of them is refused, and its tables agree with them.
use Rattle.std.specs.Prelude.{◌≡◌, ℕ, List, Some, slice_get}
use Rattle.bcj_parser_trees.specs.Trees.{PlainUnit}
use Rattle.bcj_decl_rules.specs.World.{world_of}
use Rattle.bcj_decl_rules.specs.Faults.{IsDeclared}
use Rattle.bcj_decl_table.specs.declared.info.FieldInfo.{FieldInfo}
use Rattle.bcj_decl_table.specs.declared.info.TypeInfo.{TypeInfo}
use Rattle.bcj_decl_table.specs.Views.{field_of_info, world_in}
use Rattle.bcj_decl_orders.specs.Orders.{AreOrders}
use Rattle.bcj_decl.specs.Worlds.{IsConstantOf}

-- each field has its constant
abbrev pub HasConstants : List PlainUnit → List TypeInfo → Type 0
HasConstants units types =
    (k i : ℕ) (t : TypeInfo) (f : FieldInfo) → slice_get types k ≡ Some t → slice_get t.fields i ≡ Some f → IsConstantOf units (field_of_info f) f.constant

pub record IsReady (units : List PlainUnit) (types : List TypeInfo) (lists : List (List ℕ)) : Type 0 where
  pub world : world_in types ≡ world_of units
  pub declared : IsDeclared units
  pub orders : AreOrders (world_in types) lists
  pub constants : HasConstants units types
