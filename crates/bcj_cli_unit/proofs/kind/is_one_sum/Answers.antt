use Rattle.bcj_cli_unit.proofs.Slices.{no_sum_of_many}
use Rattle.bcj_cli_unit.proofs.kind.is_one_sum.Goals as goal

pub returns-in-len2-up : goal.returns-in-len2-up
returns-in-len2-up c = no_sum_of_many _ c.in-len2-up.len_at_least
