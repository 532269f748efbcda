use Rattle.std.proofs.Common.{◌≡◌, map, take}
use Rattle.bcj_typing_scope.proofs.call.types_of.Given as goal

abbrev pub invariant-loop-arg : goal.invariant-loop-arg
invariant-loop-arg l = l.types ≡ map (λ t. t.ty) (take l.arg-index l.args)
