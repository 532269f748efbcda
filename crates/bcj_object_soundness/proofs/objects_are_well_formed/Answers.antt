use Rattle.bcj_object_soundness.proofs.Whole.{well-formed}
use Rattle.bcj_object_soundness.proofs.objects_are_well_formed.Goals as goal

pub returns : goal.returns
returns c =
    well-formed c.symbols_are_placed.ensures c.relocations_are_in_place.ensures.text c.relocations_are_in_place.ensures.tab c.objects_are_small.ensures.small
