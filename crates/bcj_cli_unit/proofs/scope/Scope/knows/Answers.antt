use Rattle.std.proofs.Common.{sym, ◌∙◌, arith}
use Rattle.bcj_cli_unit.proofs.Scopes.{among_found, among_passed}
use Rattle.bcj_cli_unit.proofs.scope.Scope.knows.Goals as goal

pub returns-then-same : goal.returns-then-same
returns-then-same c = sym (c.loop-i.invariant ∙ among_found c.self.inside.names.items c.loop-i.i c.index.result.now c.args.name.now c.behind-self.inside.name.now _ (omega arith) (omega arith) c.index.ensures c.behind-self.view_is c.same.ensures.test c.if-same.true)

pub loop-i-preserved : goal.loop-i-preserved
loop-i-preserved c = c.loop-i.invariant ∙ among_passed c.self.inside.names.items c.loop-i.i c.index.result.now c.args.name.now c.behind-self.inside.name.now _ (omega arith) (omega arith) c.index.ensures c.behind-self.view_is c.same.ensures.test c.if-same.false
