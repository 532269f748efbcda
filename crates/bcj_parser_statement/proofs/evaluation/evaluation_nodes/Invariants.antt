use Rattle.std.proofs.Common.{◌≡◌, map}
use Rattle.bcj_parser_trees.specs.Plain.{expr_of, stmt_of}
use Rattle.bcj_parser_rules.specs.function.Statements.{evaluation_nodes}
use Rattle.bcj_parser_statement.proofs.evaluation.evaluation_nodes.Given as goal

abbrev pub invariant-loop-value : goal.invariant-loop-value
invariant-loop-value l = map stmt_of l.nodes.items ≡ evaluation_nodes (map expr_of l.yielded)
