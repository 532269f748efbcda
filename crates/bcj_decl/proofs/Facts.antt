-- What the types of a declared world have.
use Rattle.std.proofs.Common.{◌≡◌, ℕ, List, [], ◌∷◌, Option, None, Some, refl, sym, ◌∙◌, ap, subst}
use Rattle.bcj_parser_trees.specs.Trees.{PlainUnit}
use Rattle.bcj_decl_rules.specs.World.{World, world_of}
use Rattle.bcj_decl_rules.specs.function.Above.{IsAcyclic}
use Rattle.bcj_decl_table.specs.declared.info.TypeInfo.{TypeInfo}
use Rattle.bcj_decl_table.specs.Views.{world_in}
use Rattle.bcj_decl_orders.specs.Orders.{AreOrders}
use Rattle.bcj_decl_orders.proofs.Circles as circles
use Rattle.bcj_decl_fields.specs.Hierarchy.{IsHierarchy, InterfacesAreInterfaces, InterfaceFieldsAreOpen, FieldsStandOnce}
use Rattle.bcj_decl_fields.proofs.Declared as fields
use Rattle.bcj_decl_methods.specs.Laws.{PrivateMethodsStandAlone, SubtypesGoOn}
use Rattle.bcj_decl_methods.proofs.PrivateMethods as methods
use Rattle.bcj_decl_soundness.proofs.Chains as chains
use Rattle.bcj_decl_rules.specs.Faults.{IsDeclared}
use Rattle.bcj_decl_soundness.proofs.Listing as listing
use Rattle.bcj_decl_constants.specs.Initials as constants
use Rattle.bcj_decl_constants.proofs.Owning.{own_initials}
use Rattle.bcj_decl.proofs.Once.{each_once}
use Rattle.bcj_decl.specs.Ready.{IsReady}
use Rattle.bcj_decl.specs.Searched.{IsSearched}

-- a fact of each declared world
of_world : (P : World → Type 0) (units : List PlainUnit) (ts : List TypeInfo) (os : List (List ℕ)) → IsReady units ts os → P (world_of units) → P (world_in ts)
of_world P units ts os r h = subst P (sym r.world) h

pub ready_acyclic : {units : List PlainUnit} {ts : List TypeInfo} {os : List (List ℕ)} → IsReady units ts os → IsAcyclic (world_in ts)
ready_acyclic {units} {ts} {os} r = of_world IsAcyclic units ts os r (circles.no_circles units r.declared)

pub ready_hierarchy : {units : List PlainUnit} {ts : List TypeInfo} {os : List (List ℕ)} → IsReady units ts os → IsHierarchy (world_in ts)
ready_hierarchy {units} {ts} {os} r = of_world IsHierarchy units ts os r (fields.hierarchy units r.declared)

pub ready_interfaces : {units : List PlainUnit} {ts : List TypeInfo} {os : List (List ℕ)} → IsReady units ts os → InterfacesAreInterfaces (world_in ts)
ready_interfaces r = (ready_hierarchy r).interfaces

pub ready_open : {units : List PlainUnit} {ts : List TypeInfo} {os : List (List ℕ)} → IsReady units ts os → InterfaceFieldsAreOpen (world_in ts)
ready_open {units} {ts} {os} r = of_world InterfaceFieldsAreOpen units ts os r (fields.fields_open units r.declared)

pub ready_once : {units : List PlainUnit} {ts : List TypeInfo} {os : List (List ℕ)} → IsReady units ts os → FieldsStandOnce (world_in ts)
ready_once {units} {ts} {os} r = of_world FieldsStandOnce units ts os r (fields.fields_once units r.declared)

pub ready_orders : {units : List PlainUnit} {ts : List TypeInfo} {os : List (List ℕ)} → IsReady units ts os → AreOrders (world_in ts) os
ready_orders r = r.orders

pub ready_alone : {units : List PlainUnit} {ts : List TypeInfo} {os : List (List ℕ)} → IsReady units ts os → PrivateMethodsStandAlone (world_in ts)
ready_alone {units} {ts} {os} r = of_world PrivateMethodsStandAlone units ts os r (methods.stand_alone units r.declared)

pub ready_transitive : {units : List PlainUnit} {ts : List TypeInfo} {os : List (List ℕ)} → IsReady units ts os → SubtypesGoOn (world_in ts)
ready_transitive {units} {ts} {os} r = of_world SubtypesGoOn units ts os r (chains.subtypes_go_on units)

-- before the constants are there
pub world_acyclic : (units : List PlainUnit) (ts : List TypeInfo) → world_in ts ≡ world_of units → IsDeclared units → IsAcyclic (world_in ts)
world_acyclic units ts e fine = subst IsAcyclic (sym e) (circles.no_circles units fine)

pub world_searched : (units : List PlainUnit) (ts : List TypeInfo) (os : List (List ℕ)) → world_in ts ≡ world_of units → IsDeclared units → AreOrders (world_in ts) os → IsSearched ts os
world_searched units ts os e fine orders =
    let hierarchy : IsHierarchy (world_in ts) = subst IsHierarchy (sym e) (fields.hierarchy units fine) in
    record {
      interfaces = hierarchy.interfaces;
      open_fields = subst InterfaceFieldsAreOpen (sym e) (fields.fields_open units fine);
      once = subst FieldsStandOnce (sym e) (fields.fields_once units fine);
      orders = orders;
    }

pub stand_once : (units : List PlainUnit) → IsDeclared units → constants.FieldsStandOnce units
stand_once units fine = record { once = each_once units listing.each_name_is_one (fields.fields_once units fine) fine; own = own_initials units fine }

pub ruleset ready_rules = (ready_acyclic, ready_hierarchy, ready_interfaces, ready_open, ready_once, ready_orders, ready_alone, ready_transitive)
