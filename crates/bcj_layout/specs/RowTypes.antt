-- The rows of an image by what they are of: classes and interfaces that load, and behind them array types by their numbers among those that have rows.
use Rattle.std.specs.Prelude.{◌≡◌, ◌+◌, ◌<◌, ℕ, length, slice_get}
use Rattle.std.specs.Option.{option_map_or}
use Rattle.bcj_symbolic_trees.specs.Types.{PlainTy, void_type, class_type, array_type}
use Rattle.bcj_hier_rules.specs.declared.class_id.ClassId.{ClassId}
use Rattle.bcj_hier_rules.specs.Shapes.{Named}
use Rattle.bcj_hier_rules.specs.Heads.{name_of}
use Rattle.bcj_layout_rules.specs.Rows.{Classes, loaded, array_types, row_types, row_number}
use Rattle.bcj_layout_rules.specs.Places.{row_at}
use Rattle.bcj_layout_resolution.specs.Places.{heads_in}
use Rattle.bcj_layout_rows.specs.Found.{IsLoading}
use Rattle.bcj_layout.specs.declared.row_id.RowId.{RowId}
use Rattle.bcj_layout.specs.declared.row_id.RowId.TheVariants as row

-- a class that loads, or a number of an array type that has a row
abbrev pub IsRow : Classes → RowId → Type 0
IsRow cs (row.Class c) = IsLoading cs c
IsRow cs (row.Array n) = n < length (array_types cs)

-- the type of a row
abbrev pub type_of_row : Classes → RowId → PlainTy
type_of_row cs (row.Class c) = class_type (name_of (heads_in cs) c)
type_of_row cs (row.Array n) = option_map_or (λ t. t) (slice_get (array_types cs) n) void_type

-- the number of the row of a class that loads
abbrev pub class_number : Classes → ClassId → ℕ
class_number cs c = option_map_or (λ n. n) (row_number cs (class_type (name_of (heads_in cs) c))) 0

-- the number of a row
abbrev pub number_of_row : Classes → RowId → ℕ
number_of_row cs (row.Class c) = class_number cs c
number_of_row cs (row.Array n) = length (loaded cs) + n

-- the row with this number begins at this address
pub record Begins (cs : Classes) (main : Named) (at n : ℕ) : Type 0 where
  pub within : n < length (row_types cs)
  pub here : row_at cs main n ≡ at

-- a row that begins at this address
pub record IsRowAt (cs : Classes) (main : Named) (at : ℕ) (r : RowId) : Type 0 where
  pub is_row : IsRow cs r
  pub here : row_at cs main (number_of_row cs r) ≡ at

-- ---- array types

-- the array type with this number
abbrev pub array_at : Classes → ℕ → PlainTy
array_at cs n = option_map_or (λ t. t) (slice_get (array_types cs) n) void_type

-- the component of an array type; all that have rows are array types
abbrev pub component_of : PlainTy → PlainTy
component_of (array_type component) = component
component_of t = t

-- that of the array type with this number
abbrev pub component_at : Classes → ℕ → PlainTy
component_at cs n = component_of (array_at cs n)
