use Rattle.std.proofs.Common.{map, ap, sym, ◌∙◌, ◌++◌, ◌∷◌, []}
use Rattle.std.proofs.lemmas.List.{map-append}
use Rattle.bcj_parser_trees.specs.Trees as tree
use Rattle.bcj_parser_trees.specs.Plain.{option_of, stmt_of}
use Rattle.bcj_parser_trees.proofs.PlainLemmas.{stmt-Local}
use Rattle.bcj_parser_rules.specs.function.Statements.{local_nodes}
use Rattle.bcj_parser_statement.specs.function.Variables.{variable_of}
use Rattle.bcj_parser_statement.proofs.Lists.{local_nodes-append}
use Rattle.bcj_parser_statement.proofs.local.local_nodes.Goals as goal

pub loop-variable-preserved : goal.loop-variable-preserved
loop-variable-preserved c =
    let v = c.in-Some.variable in
    ap (map stmt_of) c.in_ok-push.ensures.items ∙ map-append stmt_of c.loop-variable.nodes.items _
    ∙ (λ j. c.loop-variable.invariant j ++ (stmt-Local c.args.at c.in_ok-ty.ty v.name v.init ∙ ap (λ ty. tree.local_variable c.args.at ty v.name (option_of v.init)) c.in_ok-ty.ensures) j ∷ [])
    ∙ sym (ap (local_nodes c.args.at c.args.ty.now) (map-append variable_of c.loop-variable.yielded _) ∙ local_nodes-append c.args.at c.args.ty.now (map variable_of c.loop-variable.yielded) (variable_of v))
