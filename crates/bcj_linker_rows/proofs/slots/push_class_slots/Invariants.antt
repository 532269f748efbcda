use Rattle.std.proofs.Common.{◌≡◌, ◌++◌, map, take}
use Rattle.bcj_hier_rules.specs.Heads.{name_of}
use Rattle.bcj_layout_rules.specs.Members.{slots}
use Rattle.bcj_layout_rules.specs.Rows.{mixture_of}
use Rattle.bcj_layout_resolution.specs.Places.{heads_in}
use Rattle.bcj_layout_addresses.specs.Parts.{classes_of, main_of}
use Rattle.bcj_linker_rules.specs.Memory.{slot_word}
use Rattle.bcj_linker_rows.proofs.slots.push_class_slots.Given as goal

abbrev pub invariant-loop-slot : goal.invariant-loop-slot
invariant-loop-slot l =
    let cs = classes_of l.parts in
    let class = name_of (heads_in cs) l.class in
    l.words ≡ l.initial.words ++ take l.slot (map (slot_word cs (main_of l.parts) class) (slots (mixture_of cs) class))
