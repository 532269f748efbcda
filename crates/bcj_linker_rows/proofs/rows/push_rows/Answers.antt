use Rattle.std.proofs.Common.{◌∙◌, ◌++◌, ap, sym, map, length, append_assoc}
use Rattle.bcj_symbolic_trees.specs.Types.{class_type}
use Rattle.bcj_layout_rules.specs.Rows.{loaded, array_types}
use Rattle.bcj_layout_addresses.specs.Parts.{classes_of, main_of}
use Rattle.bcj_linker_rules.specs.Memory.{rows_from}
use Rattle.bcj_linker_rows.proofs.RowLemmas.{all_rows}
use Rattle.bcj_linker_rows.proofs.rows.push_rows.Goals as goal

pub returns : goal.returns
returns c =
    let cs = classes_of c.args.parts.now in
    let main = main_of c.args.parts.now in
    let classes = rows_from cs main 0 (map class_type (loaded cs)) in
    let arrays = rows_from cs main (length (loaded cs)) (array_types cs) in
    c.in_ok-push_array_rows.ensures
    ∙ (ap (λ ws. ws ++ arrays) c.in_ok-push_class_rows.ensures ∙ (append_assoc c.args.words.now classes arrays ∙ ap (λ ws. c.args.words.now ++ ws) (sym (all_rows cs main))))
