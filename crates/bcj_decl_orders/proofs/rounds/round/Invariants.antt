use Rattle.bcj_decl_table.specs.Views.{world_in}
use Rattle.bcj_decl_orders.specs.Rounds.{IsInRound}
use Rattle.bcj_decl_orders.proofs.rounds.round.Given as goal

abbrev pub invariant-loop-place : goal.invariant-loop-place
invariant-loop-place l = IsInRound (world_in l.listing.types) l.fn.done l.lists l.done l.place
