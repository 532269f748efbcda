-- A layout: the records of the classes and the name of the main class. Everything else follows from these.
use Rattle.std.specs.Prelude.{◌≡◌, ℕ, List, map}
use Rattle.bcj_symbolic_trees.specs.Types.{types_of}
use Rattle.bcj_symbolic_trees.specs.declared.type_tree.Ty.{Ty}
use Rattle.bcj_hier_rules.specs.Shapes.{Named}
use Rattle.bcj_layout_rules.specs.Rows.{Classes, array_types}
use Rattle.bcj_layout_places.specs.declared.places.Places.{Places}
use Rattle.bcj_layout_places.specs.Places.{ArePlaces}
use Rattle.bcj_layout_addresses.specs.declared.addresses.Addresses.{Addresses}
use Rattle.bcj_layout_addresses.specs.Addresses.{AreAddresses}
use Rattle.bcj_layout_entries.specs.declared.entries.Entry.{Entry}
use Rattle.bcj_layout_entries.specs.Entries.{AreAllEntries}
use Rattle.bcj_layout_entries.specs.Start.{AreStartEntries}
use Rattle.bcj_layout.specs.Objects.{kept_fields}

pub record LaidOut : Type 0 where
  pub classes : Classes
  pub main : Named

-- what is kept belongs to these classes and this main class
pub record IsLaidOut (cs : Classes) (main : Named) (arrays : List Ty) (p : Places) (a : Addresses) (entries : List (List Entry)) (start : List Entry) (field_counts : List ℕ) : Type 0 where
  pub arrays_are : types_of arrays ≡ array_types cs
  pub places : ArePlaces cs main p
  pub addresses : AreAddresses cs main a
  pub entries_are : AreAllEntries cs main entries
  pub start_are : AreStartEntries cs main start
  pub field_counts_are : field_counts ≡ map (λ c. kept_fields cs c.head.name) cs
