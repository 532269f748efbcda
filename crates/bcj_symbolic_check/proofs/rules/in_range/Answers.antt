use Rattle.std.proofs.Common.{sym}
use Rattle.bcj_symbolic_check.proofs.RangeLemmas.{fits_in_range}
use Rattle.bcj_symbolic_check.proofs.rules.in_range.Goals as goal

pub returns : goal.returns
returns c = sym (fits_in_range c.args.number c.ranges.number)
