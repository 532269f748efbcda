use Rattle.std.proofs.Common.{◌≡◌, drop}
use Rattle.std.specs.List.{list_any}
use Rattle.bcj_decl_table.specs.Views.{method_of_info, world_in}
use Rattle.bcj_decl_member_faults.specs.Inherited.{clashes_at}
use Rattle.bcj_decl_member_faults.proofs.inherited.clashes_at_one.Given as goal

abbrev pub invariant-loop-place : goal.invariant-loop-place
invariant-loop-place l =
    list_any (clashes_at (world_in l.listing.types) (method_of_info l.method)) (drop l.place-index l.places)
    ≡ list_any (clashes_at (world_in l.listing.types) (method_of_info l.method)) l.places
