use Rattle.std.proofs.Common.{map, ap, sym, ◌∙◌, ◌++◌, ◌∷◌, []}
use Rattle.std.proofs.lemmas.List.{map-append}
use Rattle.bcj_parser_trees.specs.Trees as tree
use Rattle.bcj_parser_trees.specs.Plain.{expr_of, stmt_of}
use Rattle.bcj_parser_trees.proofs.PlainLemmas.{stmt-Eval}
use Rattle.bcj_parser_rules.specs.function.Statements.{evaluation_nodes}
use Rattle.bcj_parser_statement.proofs.Lists.{evaluation_nodes-append}
use Rattle.bcj_parser_statement.proofs.evaluation.evaluation_nodes.Goals as goal

pub loop-value-preserved : goal.loop-value-preserved
loop-value-preserved c =
    ap (map stmt_of) c.in_ok-push.ensures.items ∙ map-append stmt_of c.loop-value.nodes.items _
    ∙ (λ j. c.loop-value.invariant j ++ (stmt-Eval c.at_of-at.result c.in-Some.value ∙ ap (λ at. tree.evaluate at (expr_of c.in-Some.value)) c.at_of-at.ensures) j ∷ [])
    ∙ sym (ap evaluation_nodes (map-append expr_of c.loop-value.yielded _) ∙ evaluation_nodes-append (map expr_of c.loop-value.yielded) (expr_of c.in-Some.value))
