use Rattle.std.proofs.Common.{◌≡◌, ◌++◌, map, drop}
use Rattle.std.specs.List.{flat_map}
use Rattle.bcj_hier_rules.specs.Heads.{name_of}
use Rattle.bcj_layout_resolution.specs.Places.{heads_in}
use Rattle.bcj_layout_addresses.specs.Parts.{classes_of, main_of}
use Rattle.bcj_linker_rules.specs.Memory.{class_dispatch}
use Rattle.bcj_linker_rows.proofs.dispatch.push_dispatch_rows.Given as goal

abbrev pub invariant-loop-class : goal.invariant-loop-class
invariant-loop-class l =
    let cs = classes_of l.parts in
    let main = main_of l.parts in
    l.words ++ flat_map (class_dispatch cs main) (map (name_of (heads_in cs)) (drop l.class-index l.loaded)) ≡ l.initial.words ++ flat_map (class_dispatch cs main) (map (name_of (heads_in cs)) l.loaded)
