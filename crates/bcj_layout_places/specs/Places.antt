-- The addresses that are kept, by the definitions of where the parts of an image lie.
use Rattle.std.specs.Prelude.{◌≡◌, ◌≤◌, ℕ, suc, map, length, slice_get, Some}
use Rattle.std.specs.List.{All}
use Rattle.bcj_symbolic_trees.specs.Types.{class_type}
use Rattle.bcj_hier_rules.specs.Shapes.{Named}
use Rattle.bcj_hier_rules.specs.Heads.{name_of}
use Rattle.bcj_layout_rules.specs.Rows.{Classes, loaded, row_types, row_number}
use Rattle.bcj_layout_rules.specs.Places.{takes_arguments, class_text_at, row_at, class_dispatch_at, tables_at, region_at, class_statics_at}
use Rattle.bcj_layout_resolution.specs.Places.{heads_in}
use Rattle.bcj_layout_rows.specs.Found.{IsLoading}
use Rattle.bcj_layout_places.specs.declared.places.Places.{Places}

pub record ArePlaces (cs : Classes) (main : Named) (p : Places) : Type 0 where
  pub arguments : p.takes_arguments ≡ takes_arguments cs main
  pub types : map (name_of (heads_in cs)) p.loaded ≡ loaded cs
  pub loading : All (IsLoading cs) p.loaded
  pub row_numbers : p.row_numbers ≡ map (λ c. row_number cs (class_type c.head.name)) cs
  pub text_count : length p.text ≡ suc (length cs)
  pub text : (k : ℕ) → k ≤ length cs → slice_get p.text k ≡ Some (class_text_at cs main k)
  pub rows_count : length p.rows ≡ suc (length (row_types cs))
  pub rows : (n : ℕ) → n ≤ length (row_types cs) → slice_get p.rows n ≡ Some (row_at cs main n)
  pub dispatch_count : length p.dispatch ≡ length (loaded cs)
  pub dispatch : (k : ℕ) (name : Named) → slice_get (loaded cs) k ≡ Some name → slice_get p.dispatch k ≡ Some (class_dispatch_at cs main k name)
  pub tables : p.tables ≡ tables_at cs main
  pub regions_count : length p.regions ≡ suc (length cs)
  pub regions : (k : ℕ) → k ≤ length cs → slice_get p.regions k ≡ Some (region_at cs main k)
  pub statics_count : length p.statics ≡ suc (length cs)
  pub statics : (k : ℕ) → k ≤ length cs → slice_get p.statics k ≡ Some (class_statics_at cs main k)
