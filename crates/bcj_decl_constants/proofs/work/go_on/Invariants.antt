use Rattle.std.proofs.Common.{◌<◌, ℕ, length}
use Rattle.bcj_decl_constants.specs.Waiting.{IsSound, Orderly, Places, left}
use Rattle.bcj_decl_constants.specs.Books.{worth_in, state_of}
use Rattle.bcj_decl_constants.proofs.work.go_on.Given as goal

-- all fields are placed
abbrev pub invariant-lists : goal.invariant-lists
invariant-lists g l =
    IsSound (worth_in (g.L.FieldSearch.world l.search) l.book) l.work.values.items
    × Orderly l.book.needs.items (state_of l.work)
    × ((n : ℕ) → n < length l.book.needs.items → Places (worth_in (g.L.FieldSearch.world l.search) l.book) l.book.needs.items (state_of l.work) n)

abbrev pub decreases-lists : goal.decreases-lists
decreases-lists g l = left (state_of l.work)
