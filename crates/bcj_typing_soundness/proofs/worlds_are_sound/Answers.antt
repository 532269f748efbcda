use Rattle.bcj_typing_soundness.proofs.Sound.{world_is_sound}
use Rattle.bcj_typing_soundness.proofs.worlds_are_sound.Goals as goal

pub returns : goal.returns
returns c = record { sound = world_is_sound }
