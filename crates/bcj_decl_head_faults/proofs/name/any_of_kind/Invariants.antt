use Rattle.std.proofs.Common.{◌≡◌, drop}
use Rattle.std.specs.List.{list_any}
use Rattle.bcj_decl_table.specs.Views.{world_in}
use Rattle.bcj_decl_head_faults.specs.Kinds.{is_of_kind}
use Rattle.bcj_decl_head_faults.proofs.name.any_of_kind.Given as goal

abbrev pub invariant-loop-name : goal.invariant-loop-name
invariant-loop-name l =
    list_any (is_of_kind (world_in l.listing.types) l.interface) (drop l.name-index l.names) ≡ list_any (is_of_kind (world_in l.listing.types) l.interface) l.names
