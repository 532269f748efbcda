-- Types that load, and what the sets of array types and of selectors have, in order.
use Rattle.std.specs.Prelude.{◌≡◌, ℕ, suc, List, [], map, position, slice_get, Option, None, Some}
use Rattle.std.specs.Option.{option_map_or}
use Rattle.bcj_symbolic_trees.specs.Types.{PlainTy}
use Rattle.bcj_hier_rules.specs.Shapes.{Named, Reference}
use Rattle.bcj_hier_rules.specs.declared.class_id.ClassId.{ClassId}
use Rattle.bcj_hier_rules.specs.Heads.{IsIn, name_of}
use Rattle.bcj_hier_rules.specs.Loading.{load_error}
use Rattle.bcj_layout_rules.specs.Rows.{Classes, mixture_of, same_reference}
use Rattle.bcj_layout_resolution.specs.Places.{heads_in}
use Rattle.bcj_layout_rows.specs.declared.array_rows.ArrayRows.{ArrayRows}
use Rattle.bcj_layout_rows.specs.declared.selector_table.Selectors.{Selectors}
use Rattle.bcj_layout_rows.specs.Keys.{type_in, reference_in}

-- a type that loads
pub record IsLoading (cs : Classes) (c : ClassId) : Type 0 where
  pub there : IsIn (heads_in cs) c
  pub loads : load_error (mixture_of cs) (name_of (heads_in cs) c) ≡ None

-- the types of rows, in order
abbrev pub rows_in : ArrayRows → List PlainTy
rows_in rows = map type_in rows.types.keys

-- the selectors, in order
abbrev pub selectors_in : Selectors → List Reference
selectors_in s = map reference_in s.references.keys

-- the number of a reference among selectors, from 1
abbrev pub numbered : List Reference → Reference → Option ℕ
numbered selectors r = elim (position (same_reference r) selectors) [ None ↦ None | Some k ↦ Some (suc k) ]

-- the interface of the selector at a place
abbrev pub interface_at : List Reference → ℕ → Named
interface_at selectors k = option_map_or (λ r. r.class) (slice_get selectors k) []
