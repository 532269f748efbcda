use Rattle.bcj_asm.proofs.Rounding.{only_shrink, settled, short_where}
use Rattle.bcj_asm.proofs.laws.branches_settle.Goals as goal

pub returns : goal.returns
returns c = record { shrink = only_shrink; settled = settled; reaching = short_where }
