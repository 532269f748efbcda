use Rattle.std.proofs.Common.{arith}
use Rattle.bcj_symbolic_trees.specs.Units.{plain_of}
use Rattle.bcj_object.proofs.Excess.{frame-excess, method-excess, object-excess, small}
use Rattle.bcj_object.proofs.limits.within.Goals as goal

pub returns-then-measured-gt-FRAME_LIMIT-clause-too_large : goal.returns-then-measured-gt-FRAME_LIMIT-clause-too_large
returns-then-measured-gt-FRAME_LIMIT-clause-too_large c = frame-excess (plain_of c.args.u.now) (omega (arith, c.in_ok-measured.ensures.frame))

pub returns-then-measured-gt-METHOD_LIMIT-clause-too_large : goal.returns-then-measured-gt-METHOD_LIMIT-clause-too_large
returns-then-measured-gt-METHOD_LIMIT-clause-too_large c =
    method-excess (plain_of c.args.u.now) (omega (arith, c.in_ok-measured.ensures.frame)) (omega (arith, c.in_ok-measured.ensures.method))

pub returns-then-measured-gt-OBJECT_LIMIT-clause-too_large : goal.returns-then-measured-gt-OBJECT_LIMIT-clause-too_large
returns-then-measured-gt-OBJECT_LIMIT-clause-too_large c =
    object-excess (plain_of c.args.u.now) (omega (arith, c.in_ok-measured.ensures.frame)) (omega (arith, c.in_ok-measured.ensures.method)) (omega (arith, c.in_ok-measured.ensures.object))

pub returns-clause-small : goal.returns-clause-small
returns-clause-small c =
    small (plain_of c.args.u.now) (omega (arith, c.in_ok-measured.ensures.frame)) (omega (arith, c.in_ok-measured.ensures.method)) (omega (arith, c.in_ok-measured.ensures.object))
