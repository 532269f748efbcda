use Rattle.bcj_object_soundness.proofs.Sizes.{ends-measured, objects-measured, objects-small}
use Rattle.bcj_object_soundness.proofs.objects_are_small.Goals as goal

pub returns : goal.returns
returns c =
    let ends = ends-measured c.entries_law.ensures c.long_is_measured.ensures c.short_is_not_longer.ensures.short in record {
      ends = ends;
      bytes = objects-measured ends;
      small = objects-small ends;
    }
