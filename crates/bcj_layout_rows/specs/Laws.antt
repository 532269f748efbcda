-- Where the numbers of rows and of selectors begin.
use Rattle.std.specs.Prelude.{◌≡◌, ◌+◌, length, position}
use Rattle.std.specs.Option.{option_map}
use Rattle.std.specs.Str.{bytes_eq}
use Rattle.bcj_symbolic_trees.specs.Types.{PlainTy, class_type, array_type}
use Rattle.bcj_symbolic_trees.specs.Same.{same_type}
use Rattle.bcj_hier_rules.specs.Shapes.{Named, Reference}
use Rattle.bcj_layout_rules.specs.Rows.{Classes, loaded, array_types, row_number, selectors, selector}
use Rattle.bcj_layout_rows.specs.Found.{numbered}

-- the row of a class or interface has its number among the types that load
abbrev pub ClassesFirst : Type 0
ClassesFirst = (cs : Classes) (name : Named) → row_number cs (class_type name) ≡ position (bytes_eq name) (loaded cs)

-- that of an array type has its number among the array types, behind all types that load
abbrev pub ArraysBehind : Type 0
ArraysBehind =
    (cs : Classes) (component : PlainTy) → row_number cs (array_type component) ≡ option_map (λ k. length (loaded cs) + k) (position (same_type (array_type component)) (array_types cs))

-- a selector has its number among the selectors, from 1
abbrev pub NumberedFromOne : Type 0
NumberedFromOne = (cs : Classes) (r : Reference) → selector cs r ≡ numbered (selectors cs) r
