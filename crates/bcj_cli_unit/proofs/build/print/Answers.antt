use Rattle.bcj_cli_unit.proofs.Slices.{print_one, print_many}
use Rattle.bcj_cli_unit.proofs.build.print.Goals as goal

pub returns-in_ok-sum-in-len1 : goal.returns-in_ok-sum-in-len1
returns-in_ok-sum-in-len1 c = print_one _ _ _ c.in-len1.len_at_least c.in-len1.len_below c.value-item.is c.in_ok-sum-in-len1.ensures

pub returns-in-len2-up : goal.returns-in-len2-up
returns-in-len2-up c = print_many _ c.in-len2-up.len_at_least
