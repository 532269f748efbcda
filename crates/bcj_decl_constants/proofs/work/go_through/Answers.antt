use Rattle.std.proofs.Common.{ℕ, List}
use Rattle.std.proofs.lemmas.Option.{slice_get-get_or}
use Rattle.bcj_decl_constants.specs.Waiting.{Worth}
use Rattle.bcj_decl_constants.specs.Books.{worth_in, state_of}
use Rattle.bcj_decl_constants.proofs.Steps.{two-steps, listed_next, listed_all}
use Rattle.bcj_decl_constants.proofs.work.go_through.Goals as goal

pub look-requires-clause-ahead : goal.look-requires-clause-ahead
look-requires-clause-ahead g c = c.loop-waiter.invariant.0.ahead _ (c.requires.ahead _ (c.loop-waiter.waiter-index, slice_get-get_or c.args.list.now c.loop-waiter.waiter-index _ c.loop-waiter-test.true))

pub loop-waiter-preserved : goal.loop-waiter-preserved
loop-waiter-preserved g c =
    let worth : Worth = worth_in (g.L.FieldSearch.world c.args.search.now) c.args.book.now in
    let ids : List (List ℕ) = c.args.book.now.needs.items in (
      two-steps worth ids (state_of c.args.work.now) (state_of c.loop-waiter.work) (state_of c.look.new.work) c.loop-waiter.invariant.0 c.in_ok-look.ensures.step,
      listed_next worth ids c.args.list.now c.loop-waiter.waiter-index _ (state_of c.loop-waiter.work) (state_of c.look.new.work) c.loop-waiter-test.true c.loop-waiter.invariant.1 c.in_ok-look.ensures.step c.in_ok-look.ensures.placed,
    )

pub returns-clause-placed : goal.returns-clause-placed
returns-clause-placed g c =
    listed_all (worth_in (g.L.FieldSearch.world c.args.search.now) c.args.book.now) c.args.book.now.needs.items c.args.list.now c.loop-waiter.waiter-index (state_of c.loop-waiter.work) c.loop-waiter-test.false c.loop-waiter.invariant.1
