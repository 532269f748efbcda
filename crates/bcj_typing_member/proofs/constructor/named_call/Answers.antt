use Rattle.std.proofs.Common.{◌≡◌, ◌∙◌, Err, rules, ap, sym}
use Rattle.bcj_symbolic_trees.specs.Names.{constructor_name}
use Rattle.bcj_typing_rules.specs.function.Expressions.{chosen, result}
use Rattle.bcj_typing_node.specs.Forms.{choice_of}
use Rattle.bcj_typing_node.specs.Typings.{typings_of}
use Rattle.bcj_typing_scope.specs.Scopes.{answers_in, context_of}
use Rattle.bcj_typing_scope.specs.Surroundings.{units_at}
use Rattle.bcj_typing_member.proofs.Missing.{called, same_missed}
use Rattle.bcj_typing_member.proofs.constructor.named_call.Goals as goal

pub returns-in_err-starting : goal.returns-in_err-starting
returns-in_err-starting c =
    let failed : c.from_residual-in_err-starting.result ≡ Err c.in_err-starting.field-0.0 = first_of (cc, search rules) in
    rw failed
    (same_missed _ _ c.in_err-starting.field-0.0
    (called (answers_in c.args.scope.now) (units_at c.args.scope.now.world.now) (context_of c.args.scope.now) c.args.at (typings_of c.args.args) c.args.class.now c.class.result.now (choice_of c.in_ok-chosen.chosen) c.class.ensures
    (c.in_ok-chosen.ensures ∙ ap (λ l. chosen (answers_in c.args.scope.now) (context_of c.args.scope.now) c.args.class.now constructor_name (typings_of l)) c.as_slice.ensures))
    c.in_err-starting.ensures)

pub returns : goal.returns
returns c =
    called (answers_in c.args.scope.now) (units_at c.args.scope.now.world.now) (context_of c.args.scope.now) c.args.at (typings_of c.args.args) c.args.class.now c.class.result.now (choice_of c.in_ok-chosen.chosen) c.class.ensures
    (c.in_ok-chosen.ensures ∙ ap (λ l. chosen (answers_in c.args.scope.now) (context_of c.args.scope.now) c.args.class.now constructor_name (typings_of l)) c.as_slice.ensures)
    ∙ (c.in_ok-starting.ensures ∙ ap (λ x. result x) (sym c.added.ensures))
