use Rattle.std.proofs.Common.{sym, ◌∙◌, arith}
use Rattle.bcj_cli_code.proofs.Reversed.{slot_found, slot_passed}
use Rattle.bcj_cli_code.proofs.scope.Scope.number_of.Goals as goal

pub returns-then-eq : goal.returns-then-eq
returns-then-eq c = sym (c.loop-i.invariant ∙ slot_found c.self.inside.locals.items c.loop-i.i c.index-local.result.now c.args.name.now _ _ _ (omega arith) (omega arith) c.index-local.ensures c.as_bytes.ensures c.as_bytes-in-loop-i.ensures c.eq.ensures c.if-eq.true)

pub loop-i-preserved : goal.loop-i-preserved
loop-i-preserved c = c.loop-i.invariant ∙ slot_passed c.self.inside.locals.items c.loop-i.i c.index-local.result.now c.args.name.now _ _ _ (omega arith) (omega arith) c.index-local.ensures c.as_bytes.ensures c.as_bytes-in-loop-i.ensures c.eq.ensures c.if-eq.false
