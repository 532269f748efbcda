use Rattle.std.proofs.Common.{◌≡◌, ◌++◌}
use Rattle.bcj_linker_objects.proofs.gathering.joined.Given as goal

abbrev pub invariant-loop-class : goal.invariant-loop-class
invariant-loop-class l = l.all ≡ l.fn.first ++ l.yielded
