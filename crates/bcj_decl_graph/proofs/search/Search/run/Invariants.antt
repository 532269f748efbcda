use Rattle.std.proofs.Common.{◌-◌, length}
use Rattle.bcj_decl_graph.specs.Found.{found_of}
use Rattle.bcj_decl_graph.proofs.Explored.{Explored}
use Rattle.bcj_decl_graph.proofs.search.Search.run.Given as goal

abbrev pub invariant-loop-next : goal.invariant-loop-next
invariant-loop-next g l = Explored l.steps (g.B.Barrier.closed l.barrier) l.from (found_of l.self) l.next

abbrev pub decreases-loop-next : goal.decreases-loop-next
decreases-loop-next g l = length l.steps - l.next
