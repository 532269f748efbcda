use Rattle.std.proofs.Common.{arith, ap, length}
use Rattle.bcj_parser_trees.specs.Plain as tree
use Rattle.bcj_decl_rules.specs.World as spec
use Rattle.bcj_decl_table.proofs.Types.{one_more}
use Rattle.bcj_decl_table.proofs.source.push_unit.Goals as goal

pub loop-decl-preserved : goal.loop-decl-preserved
loop-decl-preserved c = one_more spec.declared_type tree.type_of c.args.unit.now.types c.loop-decl.decl-index c.decl-item.result _ _ _ (omega (arith, ap length c.as_slice-decl-items.ensures)) (cc (c.in_ok-push_type.ensures, c.decl-item.is)) c.loop-decl.invariant
