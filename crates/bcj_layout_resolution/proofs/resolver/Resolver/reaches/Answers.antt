use Rattle.std.proofs.Common.{◌∙◌}
use Rattle.bcj_layout_resolution.proofs.Records.{loads_in, implements_in}
use Rattle.bcj_layout_resolution.proofs.resolver.Resolver.reaches.Goals as goal

pub implements-requires-clause-loads : goal.implements-requires-clause-loads
implements-requires-clause-loads c = loads_in c.hier.result.now c.args.self.now c.args.from c.hier.ensures ∙ c.requires.loads

pub implements-requires-clause-other_loads : goal.implements-requires-clause-other_loads
implements-requires-clause-other_loads c = loads_in c.hier.result.now c.args.self.now c.args.class c.hier.ensures ∙ c.loads.ensures.loads c.if-loads.true

pub returns-then-loads : goal.returns-then-loads
returns-then-loads c = λ _. c.implements.ensures ∙ implements_in c.hier.result.now c.args.self.now c.args.from c.args.class c.hier.ensures

pub returns-else-loads : goal.returns-else-loads
returns-else-loads c = λ loads. absurd (c.loads.ensures.fails c.if-loads.false loads)
