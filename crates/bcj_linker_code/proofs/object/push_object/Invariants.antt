use Rattle.bcj_elf.specs.Plain.{plain}
use Rattle.bcj_elf.specs.Rules.{IsObject}
use Rattle.bcj_hier_rules.specs.Shapes.{Named}
use Rattle.bcj_layout_rules.specs.Rows.{Classes}
use Rattle.bcj_layout_places.specs.Places.{ArePlaces}
use Rattle.bcj_linker_code.proofs.Words.{ArePut}
use Rattle.bcj_linker_code.proofs.object.push_object.Given as goal

abbrev pub invariant-loop-index : goal.invariant-loop-index
invariant-loop-index l =
    (cs : Classes) (main : Named) → ArePlaces cs main l.places → IsObject (plain l.object) → ArePut cs main l.first l.relocations l.text l.initial.words l.words l.index l.passed
