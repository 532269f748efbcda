use Rattle.std.proofs.Common.{◌∙◌}
use Rattle.rv_isa.proofs.ReadAgain.{read_only_one, spelled_by_none}
use Rattle.rv_isa.proofs.decoding.decode.Goals as goal

pub returns-clause-only : goal.returns-clause-only
returns-clause-only c i s =
    c.read.ensures.exact ∙ read_only_one c.split.result c.args.w i c.split.ensures.bits c.split.ensures.word s

pub returns-clause-none : goal.returns-clause-none
returns-clause-none c = spelled_by_none c.read.result c.args.w (returns-clause-only c)
