use Rattle.std.proofs.Common.{◌≡◌, ◌≤◌, ◌+◌, ◌++◌, ℕ, Option, Some, map, take, length, slice_get, sym, subst, arith}
use Rattle.std.proofs.lemmas.List.{length-map}
use Rattle.std.specs.Option.{option_map}
use Rattle.bcj_parser_trees.specs.Plain as tree
use Rattle.bcj_decl_table.specs.Views.{world_in}
use Rattle.bcj_decl_faults.specs.Refusals.{spot_of}
use Rattle.bcj_decl_faults.specs.Spots.{Spot, IsLeast}
use Rattle.bcj_decl_faults.specs.Parts.{Below, InFile}
use Rattle.bcj_decl_faults.proofs.Least.{least_below}
use Rattle.bcj_decl_faults.proofs.Placing.{item_at, stands_in_file, least_in_file}
use Rattle.bcj_decl_faults.proofs.file.file_found.Goals as goal

pub loop-index-preserved : goal.loop-index-preserved
loop-index-preserved c = λ before s.
    let w = world_in c.args.listing.now.types in
    let types = map tree.type_of c.args.decls.now in
    let i = c.loop-index.index in
    let t = tree.type_of c.index-decls-index.result in
    let at : slice_get types i ≡ Some t = item_at tree.type_of c.args.decls.now i c.index-decls-index.result c.loop-index-test.true c.index-decls-index.is in
    let P : Option Spot → Type 0 = λ o. IsLeast (Below (InFile w before types) (i + 1)) o in
    subst P (sym c.earlier-least.ensures)
    (least_below (InFile w before types) i (option_map spot_of c.loop-index.least) (option_map spot_of c.in_ok-type_found.field-0) (c.loop-index.invariant before s)
    (least_in_file w before types i t (option_map spot_of c.in_ok-type_found.field-0) at (c.in_ok-type_found.ensures (before ++ take i types) (stands_in_file w c.args.start before types s i t at))))

pub returns : goal.returns
returns c = λ before s.
    let w = world_in c.args.listing.now.types in
    let types = map tree.type_of c.args.decls.now in
    let P : ℕ → Type 0 = λ n. IsLeast (Below (InFile w before types) n) (option_map spot_of c.loop-index.least) in
    let past : length c.args.decls.now ≤ c.loop-index.index = c.loop-index-test.false in
    let end : c.loop-index.index ≤ length c.args.decls.now = c.loop-index.auto.index-end in
    let all : c.loop-index.index ≡ length types = omega (arith, past, end, length-map c.args.decls.now tree.type_of) in
    subst P all (c.loop-index.invariant before s)
