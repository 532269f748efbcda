use Rattle.std.proofs.Common.{◌≡◌, ◌++◌, drop}
use Rattle.bcj_layout_addresses.specs.Parts.{classes_of, main_of}
use Rattle.bcj_linker_rules.specs.Memory.{regions_from}
use Rattle.bcj_linker_rows.proofs.tables.push_tables.Given as goal

abbrev pub invariant-loop-k : goal.invariant-loop-k
invariant-loop-k l =
    let cs = classes_of l.parts in
    let main = main_of l.parts in
    l.words ++ regions_from cs main l.k (drop l.k l.classes) ≡ l.initial.words ++ regions_from cs main 0 l.classes
