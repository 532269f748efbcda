use Rattle.std.proofs.Common.{◌≡◌, map}
use Rattle.bcj_typing_member.specs.Gathered as gathered
use Rattle.bcj_typing_member.specs.Initialised.{AreInitialisers}
use Rattle.bcj_typing_member.specs.Typed.{added_of, constructor_of, making_of}
use Rattle.bcj_typing_member.proofs.making.with_constructors.Given as goal

abbrev pub invariant-loop-constructor : goal.invariant-loop-constructor
invariant-loop-constructor l =
    (making_of l.making ≡ gathered.with_mades (making_of l.fn.making) (gathered.constructors_with l.world.decl.name (added_of l.fn.instances) (map constructor_of l.yielded))) × AreInitialisers l.world l.ready
