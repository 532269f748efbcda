use Rattle.std.proofs.Common.{take}
use Rattle.bcj_decl_table.specs.Views.{world_in}
use Rattle.bcj_decl_listing.specs.Agreement.{AreMembersOf}
use Rattle.bcj_decl_listing.proofs.members.members_of.Given as goal

-- the types before have their indices
abbrev pub invariant-loop-info : goal.invariant-loop-info
invariant-loop-info l = AreMembersOf l.members.items (world_in (take l.info-index l.types))
