use Rattle.bcj_linker_objects.proofs.Damage.{one_place}
use Rattle.bcj_linker_objects.proofs.laws.damage_has_one_place.Goals as goal

pub returns : goal.returns
returns c = one_place
