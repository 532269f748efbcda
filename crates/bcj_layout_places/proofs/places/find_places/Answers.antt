use Rattle.std.proofs.Common.{◌≡◌, ◌+◌, ◌*◌, ◌++◌, List, length, map, sym, ◌∙◌, ap, subst}
use Rattle.std.specs.List.{All}
use Rattle.bcj_hier_rules.specs.declared.class_id.ClassId.{ClassId}
use Rattle.bcj_hier_rules.specs.Shapes.{Named}
use Rattle.bcj_hier_rules.specs.Heads.{name_of}
use Rattle.bcj_layout_rules.specs.Rows.{Classes, loaded, row_types}
use Rattle.bcj_layout_rules.specs.Places.{word_size, takes_arguments, class_words, region_words, statics_in, dispatch_words, row_words, row_head, text_at, rows_at, dispatch_at, tables_at, statics_at}
use Rattle.bcj_layout_resolution.specs.Places.{heads_in}
use Rattle.bcj_layout_rows.specs.Found.{IsLoading}
use Rattle.bcj_layout_places.specs.Parts.{class_row}
use Rattle.bcj_layout_places.proofs.Parts.{Lie, LieBehind, RowsLie, part-lies, lies-behind, rows-lie}
use Rattle.bcj_layout_places.proofs.Rows.{all-words}
use Rattle.bcj_layout_places.proofs.places.find_places.Goals as goal

pub row_part-requires : goal.row_part-requires
row_part-requires c =
    let P : Classes → Type 0 = λ cs. All (IsLoading cs) c.in_ok-loaded.loaded in
    let Q : List ClassId → Type 0 = λ ids. All (IsLoading c.args.members.now) ids in
    record { loaded = subst Q (sym c.as_slice.ensures) (subst P (sym c.requires.same) c.in_ok-loaded.ensures.loading) }

pub returns : goal.returns
returns c =
    let cs : Classes = c.args.resolver.now in
    let main : Named = c.args.main.now in
    let classes : c.as_slice-classes.result.now ≡ cs = c.as_slice-classes.ensures ∙ c.records.ensures in
    let names : map (name_of (heads_in cs)) c.as_slice.result.now ≡ loaded cs = ap (map (name_of (heads_in cs))) c.as_slice.ensures ∙ c.in_ok-loaded.ensures.names in
    let same-names : map (name_of (heads_in cs)) c.as_slice-2.result.now ≡ loaded cs = ap (map (name_of (heads_in cs))) c.as_slice-2.ensures ∙ c.in_ok-loaded.ensures.names in
    let row-sizes
    : map (class_row c.args.members.now) (map (name_of (heads_in c.args.members.now)) c.as_slice.result.now) ++ map (λ _. row_head) c.args.arrays.now ≡ map (row_words cs main) (row_types cs) =
    ap (λ m. map (class_row m) (map (name_of (heads_in m)) c.as_slice.result.now) ++ map (λ _. row_head) c.args.arrays.now) c.requires.same
    ∙ all-words cs main (map (name_of (heads_in cs)) c.as_slice.result.now) c.args.arrays.now names c.requires.arrays in
    let text : Lie class_words cs (text_at cs main) c.in_ok-text.text =
    part-lies class_words cs (text_at cs main) _ _ c.in_ok-text.text (ap (λ l. text_at l main) classes) (ap (map class_words) classes) c.in_ok-text.ensures in
    let rows : Lie (row_words cs main) (row_types cs) (rows_at cs main) c.in_ok-rows.rows =
    part-lies (row_words cs main) (row_types cs) (rows_at cs main) c.in_ok-text.text.next _ c.in_ok-rows.rows text.behind row-sizes c.in_ok-rows.ensures in
    let dispatch : RowsLie (dispatch_words cs) (loaded cs) (dispatch_at cs main) 1 c.in_ok-dispatch.dispatch =
    rows-lie (dispatch_words cs) (loaded cs) (dispatch_at cs main) 1 c.in_ok-rows.rows.next _ c.in_ok-dispatch.dispatch rows.behind (ap (map (dispatch_words cs)) same-names) c.in_ok-dispatch.ensures in
    let regions : LieBehind region_words cs (tables_at cs main) 3 c.in_ok-regions.regions =
    lies-behind region_words cs (tables_at cs main) 3 c.in_ok-regions.regions
    (part-lies region_words cs (tables_at cs main + word_size * 3) (c.in_ok-dispatch.dispatch.next + word_size * 3) _ c.in_ok-regions.regions (ap (λ n. n + word_size * 3) dispatch.behind)
    (ap (map region_words) classes) c.in_ok-regions.ensures) in
    let statics : Lie (λ k. length (statics_in k)) cs (statics_at cs main) c.in_ok-statics.statics =
    part-lies (λ k. length (statics_in k)) cs (statics_at cs main) c.in_ok-regions.regions.next _ c.in_ok-statics.statics regions.behind (ap (map (λ k. length (statics_in k))) classes)
    c.in_ok-statics.ensures in
    record {
      arguments = c.takes_arguments.ensures ∙ ap (λ l. takes_arguments l main) classes;
      types = c.in_ok-loaded.ensures.names;
      loading = c.in_ok-loaded.ensures.loading;
      row_numbers = c.in_ok-row_numbers.ensures;
      text_count = text.count;
      text = text.each;
      rows_count = rows.count;
      rows = rows.each;
      dispatch_count = dispatch.count;
      dispatch = dispatch.each;
      tables = dispatch.behind;
      regions_count = regions.count;
      regions = regions.each;
      statics_count = statics.count;
      statics = statics.each;
    }
