-- The addresses of symbols.
use Rattle.std.proofs.Common.{◌≡◌, ℕ, ◌+◌, ◌-◌, ◌/◌, ◌%◌, ◌≤◌, ◌≢◌, true, false, length, Some, sym, arith, eq-eqb}
use Rattle.std.specs.Prelude.{◌==◌, slice_get}
use Rattle.std.proofs.lemmas.Bool.{ne_eqb}
use Rattle.std.proofs.lemmas.Option.{slice_get_within}
use Rattle.bcj_hier_rules.specs.Shapes.{Named}
use Rattle.bcj_layout_rules.specs.Rows.{Classes}
use Rattle.bcj_layout_places.specs.declared.places.Places.{Places}
use Rattle.bcj_layout_places.specs.Places.{ArePlaces}
use Rattle.bcj_linker_rules.specs.Relocations.{symbol_at}

-- odd symbols are code
pub code_at : (cs : Classes) (main : Named) (p : Places) (first symbol class address : ℕ) → class ≡ first + (symbol - 1) / 2 → symbol % 2 ≡ 1 → slice_get p.text class ≡ Some address
    → ArePlaces cs main p → address ≡ symbol_at cs main first symbol
code_at cs main p first symbol class address is odd there h =
    let within = slice_get_within p.text class address there in
    let counted = h.text_count in
    let le : class ≤ length cs = omega arith in
    let known = h.text class le in
    let test : (symbol % 2 == 1) ≡ true = eq-eqb _ _ odd in
    rw (test, sym is) cc

-- even ones are tables
pub tables_at : (cs : Classes) (main : Named) (p : Places) (first symbol class address : ℕ) → class ≡ first + (symbol - 1) / 2 → symbol % 2 ≢ 1 → slice_get p.regions class ≡ Some address
    → ArePlaces cs main p → address ≡ symbol_at cs main first symbol
tables_at cs main p first symbol class address is even there h =
    let within = slice_get_within p.regions class address there in
    let counted = h.regions_count in
    let le : class ≤ length cs = omega arith in
    let known = h.regions class le in
    let test : (symbol % 2 == 1) ≡ false = ne_eqb _ _ even in
    rw (test, sym is) cc
