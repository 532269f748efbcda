use Rattle.std.proofs.Common.{◌∙◌, List, replicate}
use Rattle.bcj_hier_rules.specs.Shapes.{Named}
use Rattle.bcj_layout_rules.specs.Rows.{Classes, row_types}
use Rattle.bcj_layout_addresses.specs.Parts.{classes_of, main_of}
use Rattle.bcj_linker_rules.specs.Start.{start_code_words}
use Rattle.bcj_linker_rules.specs.Memory.{Linked, code_words, rows_from, dispatch_rows, tables, static_words}
use Rattle.bcj_linker_objects.specs.Gathering.{linked_in}
use Rattle.bcj_linker.proofs.Joined.{put_behind, image_by_parts}
use Rattle.bcj_linker.proofs.image_words.words_of.Goals as goal

pub returns : goal.returns
returns c =
    let cs : Classes = classes_of c.args.parts.now in
    let main : Named = main_of c.args.parts.now in
    let ls : List Linked = linked_in c.args.objects.now cs in
    put_behind (replicate 4 0) (start_code_words cs main) (code_words cs main 0 ls) (rows_from cs main 0 (row_types cs)) (dispatch_rows cs main) (tables cs main) (static_words cs)
    _ c.push_start.new.words c.push_code.new.words c.push_rows.new.words c.push_dispatch_rows.new.words c.push_tables.new.words c.push_statics.new.words
    c.in_ok-words.ensures (c.in_ok-push_start.ensures cs main c.requires.parts.places) (c.in_ok-push_code.ensures cs main c.requires.parts.places c.requires.objects)
    c.in_ok-push_rows.ensures c.in_ok-push_dispatch_rows.ensures c.in_ok-push_tables.ensures c.in_ok-push_statics.ensures
    ∙ image_by_parts ls cs main c.requires.whole
