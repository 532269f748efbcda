use Rattle.std.proofs.Common.{rules, ◌≡◌, ℕ, List, length, arith}
use Rattle.bcj_decl_constants.specs.Waiting.{Worth, State, IsSound, Orderly}
use Rattle.bcj_decl_constants.specs.Books.{worth_in, state_of}
use Rattle.bcj_decl_constants.proofs.Beginning.{first_state, placed_next}
use Rattle.bcj_decl_constants.proofs.work.values_of.Goals as goal

pub loop-number-preserved : goal.loop-number-preserved
loop-number-preserved g c =
    let worth : Worth = worth_in (g.L.FieldSearch.world c.args.search.now) c.args.book.now in
    let ids : List (List ℕ) = c.args.book.now.needs.items in (
      c.in_ok-look.ensures.step.sound,
      c.in_ok-look.ensures.step.orderly,
      placed_next worth ids c.loop-number.number (state_of c.loop-number.work) (state_of c.look.new.work) c.loop-number.invariant.2 c.in_ok-look.ensures.step c.in_ok-look.ensures.placed,
    )

pub loop-number-init : goal.loop-number-init
loop-number-init g c =
    let worth : Worth = worth_in (g.L.FieldSearch.world c.args.search.now) c.args.book.now in
    let ids : List (List ℕ) = c.args.book.now.needs.items in
    let count : c.len.result ≡ length ids = first_of (search (rules, c.len.ensures), grind (arith, c.len.ensures)) in
    let s : State = state_of c.in_ok-work.work in
    let first : IsSound worth s.values × Orderly ids s = first_state worth ids c.len.result s count c.in_ok-work.ensures.values c.in_ok-work.ensures.waiting c.in_ok-work.ensures.found in
    (first.0, first.1, λ n less. absurd (omega arith))
