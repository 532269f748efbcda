use Rattle.bcj_object_soundness.proofs.Symbols.{symbols-placed}
use Rattle.bcj_object_soundness.proofs.symbols_are_placed.Goals as goal

pub returns : goal.returns
returns c = symbols-placed c.short_is_not_longer.ensures.initialiser c.well_typed_law.ensures
