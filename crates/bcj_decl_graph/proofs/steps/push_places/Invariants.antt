use Rattle.std.proofs.Common.{◌≡◌, ◌++◌, drop}
use Rattle.bcj_decl_table.specs.Views.{world_in}
use Rattle.bcj_decl_listing.specs.Places.{places_of}
use Rattle.bcj_decl_graph.proofs.steps.push_places.Given as goal

abbrev pub invariant-loop-name : goal.invariant-loop-name
invariant-loop-name l =
    l.places ++ places_of (world_in l.listing.types) (drop l.name-index l.names) ≡ l.fn.places ++ places_of (world_in l.listing.types) l.names
