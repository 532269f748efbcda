use Rattle.bcj_linker_objects.proofs.Damage.{no_object_is_bad}
use Rattle.bcj_linker_objects.proofs.laws.no_object_is_bad.Goals as goal

pub returns : goal.returns
returns c = no_object_is_bad
