use Rattle.std.proofs.Common.{◌≡◌, [], drop}
use Rattle.bcj_decl_table.specs.Views.{world_in}
use Rattle.bcj_decl_orders.specs.Rounds.{gathered}
use Rattle.bcj_decl_orders.proofs.gather.gather.Given as goal

abbrev pub invariant-loop-name : goal.invariant-loop-name
invariant-loop-name l = gathered (world_in l.listing.types) l.lists l.found.keys (drop l.name-index l.names) ≡ gathered (world_in l.listing.types) l.lists [] l.names
