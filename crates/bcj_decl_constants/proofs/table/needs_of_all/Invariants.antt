use Rattle.std.proofs.Common.{◌≡◌, ◌<◌, ℕ, map, length, Some}
use Rattle.bcj_decl_constants.specs.Books.{initial_of}
use Rattle.bcj_decl_constants.specs.Numbers.{meant, needs_of}
use Rattle.bcj_decl_constants.specs.Waiting.{list_at}
use Rattle.bcj_decl_constants.proofs.table.needs_of_all.Given as goal

-- those before are there
abbrev pub invariant-loop-number : goal.invariant-loop-number
invariant-loop-number g l =
    (length l.needs.items ≡ l.number)
    × ((n : ℕ) → n < l.number → meant (g.L.FieldSearch.world l.search) (list_at l.needs.items n) ≡ map Some (needs_of (g.L.FieldSearch.world l.search) (map initial_of l.initialisers) n))
