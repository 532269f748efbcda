use Rattle.bcj_decl_table.specs.Views.{world_in}
use Rattle.bcj_decl_orders.proofs.RoundLemmas.{round_begins, round_goes_on}
use Rattle.bcj_decl_orders.proofs.rounds.round.Goals as goal

pub loop-place-init : goal.loop-place-init
loop-place-init c = round_begins (world_in c.args.listing.now.types) c.args.lists.now c.args.done.now c.requires.right

pub loop-place-preserved : goal.loop-place-preserved
loop-place-preserved c =
    round_goes_on (world_in c.args.listing.now.types) c.args.done.now c.loop-place.lists c.loop-place.done c.loop-place.place c.loop-place.invariant c.visit.new.lists c.visit.new.done c.in_ok-visit.ensures.right
    c.in_ok-visit.ensures.stay c.in_ok-visit.ensures.made

pub visit-requires-clause-right : goal.visit-requires-clause-right
visit-requires-clause-right c = c.loop-place.invariant.right
