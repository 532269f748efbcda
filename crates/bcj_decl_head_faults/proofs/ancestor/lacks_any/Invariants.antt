use Rattle.std.proofs.Common.{drop}
use Rattle.bcj_decl_table.specs.Views.{declared_of, world_in}
use Rattle.bcj_decl_head_faults.specs.Lacks.{LacksOf, SomeOf}
use Rattle.bcj_decl_head_faults.proofs.ancestor.lacks_any.Given as goal

abbrev pub invariant-loop-place : goal.invariant-loop-place
invariant-loop-place l =
    SomeOf (LacksOf (world_in l.listing.types) l.steps (declared_of l.info) l.from) l.places
    → SomeOf (LacksOf (world_in l.listing.types) l.steps (declared_of l.info) l.from) (drop l.place-index l.places)
