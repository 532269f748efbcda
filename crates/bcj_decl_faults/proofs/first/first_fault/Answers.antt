use Rattle.std.proofs.Common.{◌≡◌, ◌≤◌, ◌+◌, ◌∙◌, ℕ, Option, Some, map, take, length, slice_get, ap, sym, subst, arith}
use Rattle.std.proofs.lemmas.List.{length-map}
use Rattle.std.specs.Option.{option_map}
use Rattle.bcj_parser_trees.specs.Trees.{PlainUnit}
use Rattle.bcj_parser_trees.specs.Plain as tree
use Rattle.bcj_decl_rules.specs.World.{world_of, source_types}
use Rattle.bcj_decl_rules.specs.Faults.{IsFirstFault}
use Rattle.bcj_decl_table.specs.Views.{world_in, declared_of}
use Rattle.bcj_decl_faults.specs.declared.fault.Found.{Found}
use Rattle.bcj_decl_faults.specs.Refusals.{spot_of, refusal_of}
use Rattle.bcj_decl_faults.specs.Spots.{IsLeast}
use Rattle.bcj_decl_faults.specs.Parts.{FileSpot, FileStands}
use Rattle.bcj_decl_faults.proofs.Parting.{is_first, is_declared, none_in_more}
use Rattle.bcj_decl_faults.proofs.Placing.{item_at, file_stands, file_fits, file_least, next_start}
use Rattle.bcj_decl_faults.proofs.first.first_fault.Goals as goal

pub file_found-requires-clause-fits : goal.file_found-requires-clause-fits
file_found-requires-clause-fits c =
    let units = map tree.unit_of c.args.units.now in
    let i = c.loop-unit.unit-index in
    let unit : PlainUnit = tree.unit_of c.unit-item.result in
    let at : slice_get units i ≡ Some unit = item_at tree.unit_of c.args.units.now i c.unit-item.result c.loop-unit-test.true c.unit-item.is in
    let stands : FileStands (world_in c.args.listing.now.types) c.loop-unit.start (source_types (take i units)) unit = file_stands _ units c.requires.world i unit at c.loop-unit.start c.loop-unit.invariant.start in
    let fits : c.loop-unit.start + length unit ≤ length (world_in c.args.listing.now.types) = file_fits _ _ _ _ stands in
    omega (arith, fits, ap length c.as_slice-decls.ensures, length-map c.unit-item.result.types tree.type_of, length-map c.args.listing.now.types declared_of, c.len-types.ensures)

pub returns-in-Some : goal.returns-in-Some
returns-in-Some c =
    let units = map tree.unit_of c.args.units.now in
    let i = c.loop-unit.unit-index in
    let unit : PlainUnit = tree.unit_of c.unit-item.result in
    let at : slice_get units i ≡ Some unit = item_at tree.unit_of c.args.units.now i c.unit-item.result c.loop-unit-test.true c.unit-item.is in
    let P : Option Found → Type 0 = λ o. IsLeast (FileSpot (world_of units) (source_types (take i units)) unit) (option_map spot_of o) in
    let least =
    file_least (world_in c.args.listing.now.types) units c.requires.world i unit at c.loop-unit.start c.loop-unit.invariant.start (map tree.type_of c.as_slice-decls.result.now)
    (ap (map tree.type_of) c.as_slice-decls.ensures) (option_map spot_of c.in_ok-file_found.field-0) c.in_ok-file_found.ensures in
    let Q : ℕ → Type 0 = λ n. IsFirstFault units (record { file = n; at = c.in-Some.found.at }) (refusal_of c.in-Some.found.refusal) in
    subst Q (sym c.loop-unit.invariant.file) (is_first units i unit (spot_of c.in-Some.found) at c.loop-unit.invariant.none (subst P c.in-Some.is least))

pub overflow_add-start : goal.overflow_add-start
overflow_add-start c =
    let units = map tree.unit_of c.args.units.now in
    let i = c.loop-unit.unit-index in
    let unit : PlainUnit = tree.unit_of c.unit-item.result in
    let at : slice_get units i ≡ Some unit = item_at tree.unit_of c.args.units.now i c.unit-item.result c.loop-unit-test.true c.unit-item.is in
    let stands : FileStands (world_in c.args.listing.now.types) c.loop-unit.start (source_types (take i units)) unit = file_stands _ units c.requires.world i unit at c.loop-unit.start c.loop-unit.invariant.start in
    let fits : c.loop-unit.start + length unit ≤ length (world_in c.args.listing.now.types) = file_fits _ _ _ _ stands in
    omega (arith, fits, ap length c.as_slice-decls.ensures, length-map c.unit-item.result.types tree.type_of, length-map c.args.listing.now.types declared_of, c.len-types.ensures)

pub loop-unit-preserved : goal.loop-unit-preserved
loop-unit-preserved c =
    let units = map tree.unit_of c.args.units.now in
    let i = c.loop-unit.unit-index in
    let unit : PlainUnit = tree.unit_of c.unit-item.result in
    let at : slice_get units i ≡ Some unit = item_at tree.unit_of c.args.units.now i c.unit-item.result c.loop-unit-test.true c.unit-item.is in
    let P : Option Found → Type 0 = λ o. IsLeast (FileSpot (world_of units) (source_types (take i units)) unit) (option_map spot_of o) in
    let least =
    file_least (world_in c.args.listing.now.types) units c.requires.world i unit at c.loop-unit.start c.loop-unit.invariant.start (map tree.type_of c.as_slice-decls.result.now)
    (ap (map tree.type_of) c.as_slice-decls.ensures) (option_map spot_of c.in_ok-file_found.field-0) c.in_ok-file_found.ensures in
    let count : length unit ≡ length c.as_slice-decls.result.now = length-map c.unit-item.result.types tree.type_of ∙ ap length (sym c.as_slice-decls.ensures) in
    record {
      file = ap (λ n. n + 1) c.loop-unit.invariant.file;
      start = next_start units i unit at c.loop-unit.start c.loop-unit.invariant.start ∙ ap (λ n. c.loop-unit.start + n) count;
      none = none_in_more (world_of units) units i unit at c.loop-unit.invariant.none (subst P c.in-None.is least);
    }

pub returns : goal.returns
returns c =
    let units = map tree.unit_of c.args.units.now in
    let past : length c.args.units.now ≤ c.loop-unit.unit-index = c.loop-unit-test.false in
    is_declared units c.loop-unit.unit-index (omega (arith, past, length-map c.args.units.now tree.unit_of)) c.loop-unit.invariant.none
