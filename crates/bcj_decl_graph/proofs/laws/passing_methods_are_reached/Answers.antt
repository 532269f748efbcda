use Rattle.bcj_decl_graph.proofs.Passing.{each_passing_method_is_reached}
use Rattle.bcj_decl_graph.proofs.laws.passing_methods_are_reached.Goals as goal

pub returns : goal.returns
returns c = each_passing_method_is_reached
