use Rattle.bcj_hier_soundness.proofs.Hierarchies as hierarchies
use Rattle.bcj_hier_soundness.proofs.Places as places
use Rattle.bcj_hier_soundness.proofs.walks_go_on.Goals as goal

pub returns-clause-children : goal.returns-clause-children
returns-clause-children c = places.children_load

pub returns-clause-unrolls : goal.returns-clause-unrolls
returns-clause-unrolls c = places.preorder_unrolls

pub returns-clause-on : goal.returns-clause-on
returns-clause-on c = places.walk_goes_on

pub returns-clause-roots : goal.returns-clause-roots
returns-clause-roots c = places.roots_load

pub returns-clause-hierarchies : goal.returns-clause-hierarchies
returns-clause-hierarchies c = places.roots_make_hierarchies

pub returns-clause-met : goal.returns-clause-met
returns-clause-met c = hierarchies.some_is_rooted
