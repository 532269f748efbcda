use Rattle.bcj_linker_objects.proofs.Damage.{one_object}
use Rattle.bcj_linker_objects.proofs.laws.bytes_are_one_object.Goals as goal

pub returns : goal.returns
returns c = one_object
