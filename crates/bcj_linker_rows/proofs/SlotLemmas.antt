-- The word of a private method's slot.
use Rattle.std.proofs.Common.{◌≡◌, ◌∙◌, ap, refl, true, cond}
use Rattle.bcj_tables_rules.specs.declared.records.MethodRecord.{MethodRecord}
use Rattle.bcj_hier_rules.specs.Shapes.{Named, method_of_record}
use Rattle.bcj_hier_rules.specs.Resolution.{FoundMethod}
use Rattle.bcj_layout_rules.specs.Rows.{Classes}
use Rattle.bcj_layout_rules.specs.Members.{open_slot, private_slot}
use Rattle.bcj_layout_rules.specs.Entries.{address_of_method}
use Rattle.bcj_layout_resolution.specs.Places.{IsMethod}
use Rattle.bcj_layout_members.specs.declared.place.Place.{Place}
use Rattle.bcj_layout_members.specs.Places.{slot_at, IsMethodAt}
use Rattle.bcj_layout_members.proofs.Growing.{slot_at_is}
use Rattle.bcj_linker_rules.specs.Memory.{slot_word}

-- the method at a place, as a search finds it
abbrev pub method_found : (cs : Classes) (p : Place) (m : MethodRecord) → IsMethodAt cs p m → FoundMethod
method_found cs p m at = record { class = at.class.head.name; method = method_of_record m }

-- it is the one with the same number
pub is_method_found : (cs : Classes) (p : Place) (m : MethodRecord) (at : IsMethodAt cs p m) → IsMethod cs (record { class = p.class; method = p.method }) (method_found cs p m at)
is_method_found cs p m at = record { class = at.class; record_of = at.record_of; method = m; there = at.there; named = refl; is_it = refl }

-- the word of a private method's slot is its address
pub private_word : (cs : Classes) (main class : Named) (p : Place) (m : MethodRecord) (at : IsMethodAt cs p m) → m.is_private ≡ true
    → slot_word cs main class (slot_at cs p) ≡ address_of_method cs main (method_found cs p m at)
private_word cs main class p m at it =
    ap (slot_word cs main class) (slot_at_is cs p at.class m at.record_of at.there)
    ∙ ap (λ b. slot_word cs main class (cond b (private_slot at.class.head.name (method_of_record m)) (open_slot (method_of_record m)))) it
