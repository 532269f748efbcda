use Rattle.bcj_decl_orders.proofs.Circles as circles
use Rattle.bcj_decl_orders.proofs.declared_worlds_are_acyclic.Goals as goal

pub returns : goal.returns
returns c = circles.no_circles
