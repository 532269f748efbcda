use Rattle.std.proofs.Common.{◌≡◌, ◌<◌, ℕ, Some, slice_get}
use Rattle.bcj_decl_constants.specs.declared.waiting.Waiter.{Waiter}
use Rattle.bcj_decl_constants.specs.Waiting.{IsStep, Places}
use Rattle.bcj_decl_constants.specs.Books.{worth_in, state_of}
use Rattle.bcj_decl_constants.proofs.work.go_through.Given as goal

-- the state has kept what it was, and the waiters before are placed
abbrev pub invariant-loop-waiter : goal.invariant-loop-waiter
invariant-loop-waiter g l =
    IsStep (worth_in (g.L.FieldSearch.world l.search) l.book) l.book.needs.items (state_of l.initial.work) (state_of l.work)
    × ((j : ℕ) (x : Waiter) → j < l.waiter-index → slice_get l.list j ≡ Some x → Places (worth_in (g.L.FieldSearch.world l.search) l.book) l.book.needs.items (state_of l.work) x.field)
