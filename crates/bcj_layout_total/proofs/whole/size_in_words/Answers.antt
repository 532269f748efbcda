use Rattle.std.proofs.Common.{◌≡◌, ◌+◌, ◌*◌, ℕ, List, length, map, sum, sym, ◌∙◌, ap}
use Rattle.std.proofs.lemmas.List.{length-map}
use Rattle.bcj_symbolic_trees.specs.Types.{ty_of}
use Rattle.bcj_symbolic_measure.specs.Totals.{capped}
use Rattle.bcj_tables_rules.specs.declared.records.ClassRecord.{ClassRecord}
use Rattle.bcj_layout_rules.specs.Rows as spec
use Rattle.bcj_layout_rules.specs.Places as places
use Rattle.bcj_layout_total.specs.function.Sizes as size
use Rattle.bcj_layout_total.proofs.Parts.{words_gathered}
use Rattle.bcj_layout_total.proofs.whole.size_in_words.Goals as goal

pub returns : goal.returns
returns c =
    let cs : List ClassRecord = c.args.resolver.now in
    let main : List ℕ = c.args.main.now in
    let same : c.as_slice-classes.result.now ≡ cs = c.as_slice-classes.ensures ∙ c.records.ensures in
    let start : c.start_words.result ≡ capped (places.start_words cs main) = c.start_words.ensures ∙ ap (λ rs. capped (places.start_words rs main)) same in
    let first : c.add-start.result ≡ capped (places.start_words cs main + 4) = c.add-start.ensures _ start in
    let text : c.with_classes-text.result ≡ capped (places.start_words cs main + 4 + sum (map size.class_size cs)) =
    c.with_classes-text.ensures _ first ∙ ap (λ rs. capped (places.start_words cs main + 4 + sum (map size.class_size rs))) same in
    let rows : c.in_ok-rows.rows ≡ capped (places.start_words cs main + 4 + sum (map size.class_size cs) + sum (map (size.type_size cs) (spec.loaded cs))) =
    c.in_ok-rows.ensures _ text in
    let held : length c.in_ok-arrays.arrays ≡ length (spec.array_types cs) = sym (length-map c.in_ok-arrays.arrays ty_of) ∙ ap length c.in_ok-arrays.ensures.types in
    let counted : c.counted.result ≡ capped (length (spec.array_types cs)) = c.counted.ensures ∙ ap capped (c.len.ensures ∙ held) in
    let arrays : c.times_four-array_rows.result ≡ capped (4 * length (spec.array_types cs)) = c.times_four-array_rows.ensures _ counted in
    c.join.ensures _ _ rows arrays
    ∙ ap capped (words_gathered (places.start_words cs main) (sum (map size.class_size cs)) (sum (map (size.type_size cs) (spec.loaded cs))) (length (spec.array_types cs)))
