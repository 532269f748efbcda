use Rattle.std.proofs.Common.{◌≡◌, map}
use Rattle.bcj_parser_trees.specs.Plain.{stmt_of}
use Rattle.bcj_parser_rules.specs.function.Statements.{local_nodes}
use Rattle.bcj_parser_statement.specs.function.Variables.{variable_of}
use Rattle.bcj_parser_statement.proofs.local.local_nodes.Given as goal

abbrev pub invariant-loop-variable : goal.invariant-loop-variable
invariant-loop-variable l = map stmt_of l.nodes.items ≡ local_nodes l.at l.ty (map variable_of l.yielded)
