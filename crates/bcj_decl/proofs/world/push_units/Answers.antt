use Rattle.std.proofs.Common.{arith, ap, length}
use Rattle.bcj_parser_trees.specs.Plain as tree
use Rattle.bcj_decl_rules.specs.World as spec
use Rattle.bcj_decl.proofs.Types.{one_more}
use Rattle.bcj_decl.proofs.world.push_units.Goals as goal

pub loop-unit-preserved : goal.loop-unit-preserved
loop-unit-preserved c = one_more spec.declared_type tree.unit_of c.args.units.now c.loop-unit.unit-index c.unit-item.result _ _ _ (omega arith) (cc (c.in_ok-push_unit.ensures, c.unit-item.is)) c.loop-unit.invariant
