use Rattle.std.proofs.Common.{◌∙◌, sym}
use Rattle.bcj_hier.proofs.Calls.{high_none}
use Rattle.bcj_hier.proofs.hierarchy.Hier.high_at.Goals as goal

pub returns-then-is_interface : goal.returns-then-is_interface
returns-then-is_interface c = high_none c.args.self.now c.is_interface.ensures.distinct c.args.c c.requires.there (sym c.is_interface.ensures.kind ∙ c.if-is_interface.true)
