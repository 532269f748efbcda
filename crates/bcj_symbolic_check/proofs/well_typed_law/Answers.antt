use Rattle.bcj_symbolic_check.proofs.LawLemmas as law
use Rattle.bcj_symbolic_check.proofs.well_typed_law.Goals as goal

pub returns : goal.returns
returns c = law.well_typed_law
