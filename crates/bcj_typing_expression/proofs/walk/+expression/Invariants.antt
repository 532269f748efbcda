use Rattle.std.proofs.Common.{drop}
use Rattle.bcj_typing_scope.specs.Scopes.{answers_in, context_of}
use Rattle.bcj_typing_expression.proofs.Lists.{SoFar}
use Rattle.bcj_typing_expression.proofs.walk.+expression.Given as goal

abbrev pub invariant-arguments-loop-argument : goal.invariant-arguments-loop-argument
invariant-arguments-loop-argument l = SoFar (answers_in l.scope) (context_of l.scope) l.args l.typed (drop l.argument-index l.args)
