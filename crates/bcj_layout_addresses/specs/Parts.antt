-- Parts that belong to the same classes and the same main class.
use Rattle.std.specs.Prelude.{◌≡◌}
use Rattle.bcj_hier_rules.specs.Shapes.{Named}
use Rattle.bcj_layout_rules.specs.Rows.{Classes, array_types, selectors}
use Rattle.bcj_layout_rows.specs.Found.{rows_in, selectors_in}
use Rattle.bcj_layout_places.specs.Places.{ArePlaces}
use Rattle.bcj_layout_addresses.specs.Addresses.{AreAddresses}
use Rattle.bcj_layout_addresses.specs.declared.parts.Parts.{Parts}

-- the records of the classes
abbrev pub classes_of : Parts → Classes
classes_of p = p.resolver.now

-- the name of the main class
abbrev pub main_of : Parts → Named
main_of p = p.main.now

pub record AreParts (p : Parts) : Type 0 where
  pub members : p.members.now ≡ classes_of p
  pub selectors : selectors_in p.selectors.now ≡ selectors (classes_of p)
  pub arrays : rows_in p.arrays.now ≡ array_types (classes_of p)
  pub places : ArePlaces (classes_of p) (main_of p) p.places.now
  pub addresses : AreAddresses (classes_of p) (main_of p) p.addresses.now
