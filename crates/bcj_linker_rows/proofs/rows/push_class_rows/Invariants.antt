use Rattle.std.proofs.Common.{◌≡◌, ◌++◌, map, drop}
use Rattle.bcj_symbolic_trees.specs.Types.{class_type}
use Rattle.bcj_hier_rules.specs.Heads.{name_of}
use Rattle.bcj_layout_resolution.specs.Places.{heads_in}
use Rattle.bcj_layout_addresses.specs.Parts.{classes_of, main_of}
use Rattle.bcj_linker_rules.specs.Memory.{rows_from}
use Rattle.bcj_linker_rows.proofs.rows.push_class_rows.Given as goal

abbrev pub invariant-loop-k : goal.invariant-loop-k
invariant-loop-k l =
    let cs = classes_of l.parts in
    let main = main_of l.parts in
    l.words ++ rows_from cs main l.k (map class_type (map (name_of (heads_in cs)) (drop l.k l.loaded)))
    ≡ l.initial.words ++ rows_from cs main 0 (map class_type (map (name_of (heads_in cs)) l.loaded))
