use Rattle.std.proofs.Common.{◌≡◌, ◌≤◌, ◌<◌, ◌+◌, ◌-◌, ◌++◌, ◌∙◌, ap, sym, length, slice_get, get_or, Some, suc, arith}
use Rattle.std.proofs.lemmas.List.{length-map}
use Rattle.bcj_hier_rules.specs.Heads.{name_of}
use Rattle.bcj_layout_rules.specs.Rows.{loaded, array_types, row_types}
use Rattle.bcj_layout_rules.specs.Places.{dispatch_at}
use Rattle.bcj_layout_resolution.specs.Places.{heads_in}
use Rattle.bcj_layout_addresses.specs.Parts.{classes_of, main_of}
use Rattle.bcj_linker_rules.specs.Memory.{rows_from}
use Rattle.bcj_linker_rows.proofs.ListLemmas.{last_is}
use Rattle.bcj_linker_rows.proofs.RowLemmas.{row_count, array_step}
use Rattle.bcj_linker_rows.proofs.rows.push_array_rows.Goals as goal

pub loop-n-preserved : goal.loop-n-preserved
loop-n-preserved c =
    let cs = classes_of c.args.parts.now in
    let main = main_of c.args.parts.now in
    let places = c.args.parts.now.places.now in
    let rows = c.as_slice-rows.result.now in
    let first = length (loaded cs) in
    let count : length rows ≡ suc (length (row_types cs)) = ap length c.as_slice-rows.ensures ∙ c.requires.places.rows_count in
    let end : slice_get rows (length (row_types cs)) ≡ Some (dispatch_at cs main) =
    ap (λ xs. slice_get xs (length (row_types cs))) c.as_slice-rows.ensures ∙ c.requires.places.rows (length (row_types cs)) (omega arith) in
    let names : length places.loaded ≡ first = sym (length-map places.loaded (name_of (heads_in cs))) ∙ ap length c.requires.places.types in
    let least : first ≤ c.loop-n.n = omega (arith, names, c.len-n.ensures, c.loop-n.auto.n) in
    let inside : c.loop-n.n < first + length (array_types cs) = omega (arith, count, row_count cs, c.loop-n-test.true) in
    array_step cs main c.loop-n.n c.in_ok-word_of.field-0 first (get_or rows (length rows - 1) 0) c.loop-n.words c.push_array_row.new.words (c.args.words.now ++ rows_from cs main first (array_types cs))
    least inside c.in_ok-word_of.ensures (last_is rows (length (row_types cs)) (dispatch_at cs main) count end) c.in_ok-push_array_row.ensures c.loop-n.invariant
