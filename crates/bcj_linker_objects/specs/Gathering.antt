-- Objects whose classes stand in one list.
use Rattle.std.specs.Prelude.{List, [], ◌∷◌, take, drop}
use Rattle.bcj_elf.specs.Plain.{plain}
use Rattle.bcj_layout_rules.specs.Rows.{Classes}
use Rattle.bcj_linker_rules.specs.Memory.{Linked}
use Rattle.bcj_linker_objects.specs.declared.gathered.GatheredObject.{GatheredObject}
use Rattle.bcj_linker_objects.specs.declared.gathered.Gathered.{Gathered}

-- each object has as many of the classes as it says, in order
abbrev pub linked_in : List GatheredObject → Classes → List Linked
linked_in [] cs = []
linked_in (o ∷ os) cs = record { object = plain o.object; classes = take o.classes cs } ∷ linked_in os (drop o.classes cs)

abbrev pub linked_of : Gathered → List Linked
linked_of g = linked_in g.objects g.records.classes
