use Rattle.bcj_hier_rules.specs.Shapes.{Named}
use Rattle.bcj_layout_rules.specs.Rows.{Classes}
use Rattle.bcj_layout_places.specs.Places.{ArePlaces}
use Rattle.bcj_linker_code.specs.Objects.{AreObjects}
use Rattle.bcj_linker_code.proofs.Objects.{ArePut}
use Rattle.bcj_linker_code.proofs.code.push_code.Given as goal

abbrev pub invariant-loop-gathered : goal.invariant-loop-gathered
invariant-loop-gathered l =
    (cs : Classes) (main : Named) → ArePlaces cs main l.places → AreObjects cs l.objects → ArePut cs main l.objects l.initial.words l.words l.gathered-index l.first
