use Rattle.bcj_decl_table.specs.Views.{world_in}
use Rattle.bcj_decl_orders.proofs.RoundLemmas.{IsAfter}
use Rattle.bcj_decl_orders.proofs.rounds.run.Given as goal

abbrev pub invariant-loop : goal.invariant-loop
invariant-loop l = IsAfter (world_in l.listing.types) l.lists l.done l.counter
