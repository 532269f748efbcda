use Rattle.std.proofs.Common.{◌∙◌, List}
use Rattle.bcj_typing_rules.specs.function.Expressions.{chosen}
use Rattle.bcj_typing_node.specs.Typings.{typings_of}
use Rattle.bcj_typing_scope.specs.Scopes.{answers_in, context_of}
use Rattle.bcj_typing_expression.proofs.Arms.{own_call_types}
use Rattle.bcj_typing_expression.proofs.calling.called_by_name.Goals as goal

pub returns : goal.returns
returns c es hs =
    own_call_types _ _ _ _ _ _ _ _ _ _ hs c.class-2.ensures c.has_this.ensures
    (c.in_ok-chosen.ensures ∙ (λ i. chosen (answers_in c.args.scope.now) (context_of c.args.scope.now) (c.class.ensures i) c.args.name.now (typings_of (c.as_slice.ensures i))))
    (record { judges = c.own_call.ensures })
