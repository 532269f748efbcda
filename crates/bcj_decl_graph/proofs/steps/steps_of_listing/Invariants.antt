use Rattle.std.proofs.Common.{◌≡◌, ◌++◌, drop, map}
use Rattle.bcj_decl_table.specs.Views.{world_in}
use Rattle.bcj_decl_listing.specs.Places.{steps_from, steps_of_world}
use Rattle.bcj_decl_graph.proofs.steps.steps_of_listing.Given as goal

abbrev pub invariant-loop-info : goal.invariant-loop-info
invariant-loop-info l =
    l.steps ++ map (steps_from (world_in l.listing.types)) (world_in (drop l.info-index l.listing.types)) ≡ steps_of_world (world_in l.listing.types)
