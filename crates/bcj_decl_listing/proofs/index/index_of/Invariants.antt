use Rattle.std.proofs.Common.{◌≡◌, List, ℕ, drop}
use Rattle.std.specs.Option.{option_or}
use Rattle.std.specs.HashMap.{get_by_text}
use Rattle.bcj_decl_table.specs.Views.{world_in}
use Rattle.bcj_decl_listing.specs.Places.{place_from, place_of}
use Rattle.bcj_decl_listing.proofs.index.index_of.Given as goal

-- the places before are noted, and the first place of another name stands further on
abbrev pub invariant-loop-i : goal.invariant-loop-i
invariant-loop-i l = (q : List ℕ) → option_or (get_by_text l.index q) (place_from l.i (world_in (drop l.i l.types)) q) ≡ place_of (world_in l.types) q
