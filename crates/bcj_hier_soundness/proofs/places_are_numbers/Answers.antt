use Rattle.bcj_hier_soundness.proofs.Places as places
use Rattle.bcj_hier_soundness.proofs.places_are_numbers.Goals as goal

pub returns-clause-before : goal.returns-clause-before
returns-clause-before c = places.none_stands_before

pub returns-clause-behind : goal.returns-clause-behind
returns-clause-behind c = places.low_behind

pub returns-clause-low : goal.returns-clause-low
returns-clause-low c = places.low_is_place

pub returns-clause-differ : goal.returns-clause-differ
returns-clause-differ c = places.places_differ

pub returns-clause-stand : goal.returns-clause-stand
returns-clause-stand c = places.classes_stand

pub returns-clause-loading : goal.returns-clause-loading
returns-clause-loading c = places.places_load

pub returns-clause-few : goal.returns-clause-few
returns-clause-few c = places.few_stand
