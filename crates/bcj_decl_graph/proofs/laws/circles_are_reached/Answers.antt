use Rattle.bcj_decl_graph.proofs.Circles.{each_circle_is_reached}
use Rattle.bcj_decl_graph.proofs.laws.circles_are_reached.Goals as goal

pub returns : goal.returns
returns c = each_circle_is_reached
