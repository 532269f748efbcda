use Rattle.std.proofs.Common.{◌≡◌, map}
use Rattle.bcj_typing_member.specs.Gathered as gathered
use Rattle.bcj_typing_member.specs.Typed.{making_of, made_of}
use Rattle.bcj_typing_member.proofs.making.with_methods.Given as goal

abbrev pub invariant-loop-method : goal.invariant-loop-method
invariant-loop-method l = making_of l.making ≡ gathered.with_mades (making_of l.fn.making) (map made_of l.yielded)
