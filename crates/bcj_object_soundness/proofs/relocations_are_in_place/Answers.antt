use Rattle.bcj_object_soundness.proofs.Relocations.{text-in-place, tab-in-place}
use Rattle.bcj_object_soundness.proofs.relocations_are_in_place.Goals as goal

pub returns : goal.returns
returns c = record {
  text = text-in-place c.lines_are_items.ensures.methods c.lines_are_items.ensures.initialiser c.halves_are_placed.ensures c.objects_are_small.ensures.ends;
  tab = tab-in-place c.objects_are_small.ensures.ends;
}
