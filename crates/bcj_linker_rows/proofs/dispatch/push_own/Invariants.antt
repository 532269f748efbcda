use Rattle.std.proofs.Common.{◌≡◌, ◌++◌, map, take}
use Rattle.bcj_hier_rules.specs.Heads.{name_of}
use Rattle.bcj_layout_rules.specs.Rows.{selectors}
use Rattle.bcj_layout_resolution.specs.Places.{heads_in}
use Rattle.bcj_layout_addresses.specs.Parts.{classes_of, main_of}
use Rattle.bcj_linker_rules.specs.Memory.{dispatch_word}
use Rattle.bcj_linker_rows.proofs.dispatch.push_own.Given as goal

abbrev pub invariant-loop-place : goal.invariant-loop-place
invariant-loop-place l =
    let cs = classes_of l.parts in
    l.words ≡ l.initial.words ++ take l.place (map (dispatch_word cs (main_of l.parts) (name_of (heads_in cs) l.class)) (selectors cs))
