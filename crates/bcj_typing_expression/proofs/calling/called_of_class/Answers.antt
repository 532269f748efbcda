use Rattle.std.proofs.Common.{◌∙◌}
use Rattle.bcj_typing_rules.specs.function.Expressions.{chosen}
use Rattle.bcj_typing_node.specs.Typings.{typings_of}
use Rattle.bcj_typing_scope.specs.Scopes.{answers_in, context_of}
use Rattle.bcj_typing_expression.proofs.Arms.{behind_call_types}
use Rattle.bcj_typing_expression.proofs.calling.called_of_class.Goals as goal

pub returns : goal.returns
returns c e es d h hs ec =
    behind_call_types _ _ _ _ _ _ _ _ _ _ _ _ d h hs ec
    (c.in_ok-chosen.ensures ∙ (λ i. chosen (answers_in c.args.scope.now) (context_of c.args.scope.now) c.args.class.now c.args.name.now (typings_of (c.as_slice.ensures i))))
    c.is_interface-on_interface.ensures (record { judges = c.behind_call.ensures })
