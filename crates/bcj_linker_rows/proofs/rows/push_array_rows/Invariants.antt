use Rattle.std.proofs.Common.{◌≡◌, ◌-◌, ◌++◌, drop, length}
use Rattle.bcj_layout_rules.specs.Rows.{loaded, array_types}
use Rattle.bcj_layout_addresses.specs.Parts.{classes_of, main_of}
use Rattle.bcj_linker_rules.specs.Memory.{rows_from}
use Rattle.bcj_linker_rows.proofs.rows.push_array_rows.Given as goal

abbrev pub invariant-loop-n : goal.invariant-loop-n
invariant-loop-n l =
    let cs = classes_of l.parts in
    let main = main_of l.parts in
    let first = length (loaded cs) in
    l.words ++ rows_from cs main l.n (drop (l.n - first) (array_types cs)) ≡ l.initial.words ++ rows_from cs main first (array_types cs)
