use Rattle.std.proofs.Common.{◌<◌, ℕ}
use Rattle.bcj_decl_constants.specs.Waiting.{IsSound, Orderly, Places}
use Rattle.bcj_decl_constants.specs.Books.{worth_in, state_of}
use Rattle.bcj_decl_constants.proofs.work.values_of.Given as goal

-- the fields before are placed
abbrev pub invariant-loop-number : goal.invariant-loop-number
invariant-loop-number g l =
    IsSound (worth_in (g.L.FieldSearch.world l.search) l.book) l.work.values.items
    × Orderly l.book.needs.items (state_of l.work)
    × ((n : ℕ) → n < l.number → Places (worth_in (g.L.FieldSearch.world l.search) l.book) l.book.needs.items (state_of l.work) n)
