use Rattle.std.proofs.Common.{◌≡◌, ◌≤◌, length, arith, subst, ℕ}
use Rattle.std.proofs.lemmas.List.{length-map}
use Rattle.bcj_decl_rules.specs.World.{World}
use Rattle.bcj_decl_table.specs.Views.{declared_of, world_in}
use Rattle.bcj_decl_orders.proofs.RoundLemmas.{IsDoneBy, after_none, one_more_round, orders_by_round, orders_by_flags}
use Rattle.bcj_decl_orders.proofs.rounds.run.Goals as goal

pub loop-init : goal.loop-init
loop-init c = after_none (world_in c.args.listing.now.types) c.args.lists.now c.args.done.now c.requires.right

pub loop-preserved : goal.loop-preserved
loop-preserved c =
    let few : length (world_in c.args.listing.now.types) ≤ length c.args.listing.now.types = omega (arith, length-map c.args.listing.now.types declared_of) in
    one_more_round c.loop.counter (world_in c.args.listing.now.types) c.loop.lists c.loop.done c.loop.invariant c.round.new.lists c.round.new.done (length c.args.listing.now.types) few c.in_ok-round.ensures

pub returns-then-are_all_done : goal.returns-then-are_all_done
returns-then-are_all_done c =
    let few : length c.loop.done ≡ length (world_in c.args.listing.now.types) = omega (arith, length-map c.args.listing.now.types declared_of) in
    let many : length c.loop.lists ≡ length (world_in c.args.listing.now.types) = omega (arith, length-map c.args.listing.now.types declared_of) in
    orders_by_flags (world_in c.args.listing.now.types) c.loop.lists c.loop.done c.loop.invariant.right (cc) few many

pub returns : goal.returns
returns c =
    let w : World = world_in c.args.listing.now.types in
    let few : length w ≤ length c.args.listing.now.types = omega (arith, length-map c.args.listing.now.types declared_of) in
    let many : length c.round-2.new.lists ≡ length w = omega (arith, length-map c.args.listing.now.types declared_of) in
    let by : c.loop.counter ≡ length w = omega (arith, length-map c.args.listing.now.types declared_of, c.len-end.ensures, c.loop-test.false) in
    let P : ℕ → Type 0 = λ n. IsDoneBy n w c.loop.done in
    orders_by_round w c.requires.acyclic c.loop.done (subst P by c.loop.invariant.by) c.round-2.new.lists c.round-2.new.done (length c.args.listing.now.types) few c.in_ok-round-2.ensures many
