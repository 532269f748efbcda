use Rattle.bcj_parser_trees.specs.Plain.{stmts_of}
use Rattle.bcj_cli_unit.proofs.Scopes.{block_leaves}
use Rattle.bcj_cli_unit.proofs.Walking.{if_walks}
use Rattle.bcj_cli_unit.proofs.statement.+statement.Goals as goal

pub enclosed-returns : goal.enclosed-returns
enclosed-returns t c = (c.in_ok-statements.ensures.0, block_leaves c.args.scope.now _ _ (stmts_of c.args.all.now) _ c.in_ok-statements.ensures.1 c.len-outer.ensures c.leave.ensures)

pub statement-returns-in_ok-statement-in-If : goal.statement-returns-in_ok-statement-in-If
statement-returns-in_ok-statement-in-If t c =
    if_walks _ _ _ _ _ _ _ _ _ _ _ _ _ _ c.in-If.is c.in_ok-expression-in-If.ensures c.get.ensures c.in_ok-statement-in-If.ensures c.get-in-If.ensures c.is_choice-holds.ensures c.otherwise.ensures
