use Rattle.std.proofs.Common.{map}
use Rattle.bcj_hier_rules.specs.Heads.{name_of}
use Rattle.bcj_layout_rules.specs.Members.{slots}
use Rattle.bcj_layout_rules.specs.Rows.{mixture_of}
use Rattle.bcj_layout_resolution.specs.Places.{heads_in}
use Rattle.bcj_layout_addresses.specs.Parts.{classes_of, main_of}
use Rattle.bcj_linker_rules.specs.Memory.{slot_word}
use Rattle.bcj_linker_rows.proofs.ListLemmas.{front_step}
use Rattle.bcj_linker_rows.proofs.slots.push_class_slots.Goals as goal

pub loop-slot-preserved : goal.loop-slot-preserved
loop-slot-preserved c =
    let cs = classes_of c.args.parts.now in
    let class = name_of (heads_in cs) c.args.class in
    front_step c.args.words.now c.loop-slot.words c.push.new.self (map (slot_word cs (main_of c.args.parts.now) class) (slots (mixture_of cs) class)) c.loop-slot.slot c.numbered_slot_word.result
    c.loop-slot.invariant c.in_ok-push.ensures.ok c.numbered_slot_word.ensures
