-- Sets of numbers as bits in words.
use Rattle.std.specs.Prelude.{ℕ, ◌/◌, ◌%◌, Bool, false, ◌==◌, List, None, Some, slice_index, slice_get}
use Rattle.std.specs.Int.{bit_at}
use Rattle.bcj_hier.specs.declared.parts.Part.{Part}
use Rattle.bcj_hier.specs.declared.rows.Row.{Row}

-- whether a number is in the set
abbrev pub has : Row → ℕ → Bool
has row i = bit_at (slice_index row.words (i / 64)) (i % 64) == 1

-- whether it is in the set at a place
abbrev pub has_at : List Row → ℕ → ℕ → Bool
has_at rows k i = elim (slice_get rows k) [ None ↦ false | Some row ↦ has row i ]

-- whether it is in the set of a part
abbrev pub part_has : List Row → ℕ → Part → Bool
part_has rows i p = elim p.place [ None ↦ false | Some k ↦ has_at rows k i ]
