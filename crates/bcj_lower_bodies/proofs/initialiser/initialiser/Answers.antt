use Rattle.std.proofs.Common.{ap}
use Rattle.bcj_symbolic_trees.specs.Plain.{stmts_of}
use Rattle.bcj_lower_bodies.proofs.Whole.{init_made}
use Rattle.bcj_lower_bodies.proofs.initialiser.initialiser.Goals as goal

pub returns : goal.returns
returns c =
    init_made _ _ _ _ _ _ _ _ _ _ _ _ c.requires c.init_body-body.ensures (ap stmts_of c.as_slice.ensures) c.no_loop.ensures
    c.new-code.ensures.lines c.in_ok-begun.ensures c.in_ok-statements.ensures.lines c.in_ok-ended.ensures
    c.new-code.ensures.ranges c.in_ok-statements.ensures.ranges c.in_ok-guard.ensures
