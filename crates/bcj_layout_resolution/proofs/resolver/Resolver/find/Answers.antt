use Rattle.std.proofs.Common.{◌∙◌, ap}
use Rattle.bcj_layout_resolution.specs.Places.{heads_in}
use Rattle.bcj_layout_resolution.proofs.Records.{find_named, find_none}
use Rattle.bcj_layout_resolution.proofs.resolver.Resolver.find.Goals as goal

pub returns-clause-named : goal.returns-clause-named
returns-clause-named c =
    find_named c.self.inside.hier c.args.self.now c.args.name.now c.find.result (c.self.invariant.heads_are ∙ ap heads_in c.self.view_is) c.find.ensures.number

pub returns-clause-none : goal.returns-clause-none
returns-clause-none c =
    find_none c.self.inside.hier c.args.self.now c.args.name.now c.find.result (c.self.invariant.heads_are ∙ ap heads_in c.self.view_is) c.find.ensures.number
