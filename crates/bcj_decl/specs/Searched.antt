-- What a search for fields needs of the types that it goes over.
use Rattle.std.specs.Prelude.{ℕ, List}
use Rattle.bcj_decl_table.specs.declared.info.TypeInfo.{TypeInfo}
use Rattle.bcj_decl_table.specs.Views.{world_in}
use Rattle.bcj_decl_fields.specs.Hierarchy.{InterfacesAreInterfaces, InterfaceFieldsAreOpen, FieldsStandOnce}
use Rattle.bcj_decl_orders.specs.Orders.{AreOrders}

pub record IsSearched (types : List TypeInfo) (lists : List (List ℕ)) : Type 0 where
  pub interfaces : InterfacesAreInterfaces (world_in types)
  pub open_fields : InterfaceFieldsAreOpen (world_in types)
  pub once : FieldsStandOnce (world_in types)
  pub orders : AreOrders (world_in types) lists
