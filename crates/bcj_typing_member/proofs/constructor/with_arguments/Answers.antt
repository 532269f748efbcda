use Rattle.std.proofs.Common.{◌≡◌, ◌∙◌, Err, rules, ap, sym}
use Rattle.bcj_typing_rules.specs.function.Members as function
use Rattle.bcj_typing_node.specs.Typings.{typings_of}
use Rattle.bcj_typing_scope.specs.Scopes.{answers_in, context_of}
use Rattle.bcj_typing_scope.specs.Surroundings.{units_at}
use Rattle.bcj_typing_member.specs.Typed.{added_of, constructor_of}
use Rattle.bcj_typing_member.proofs.Missing.{missed, same_missed, go_on}
use Rattle.bcj_typing_member.proofs.constructor.with_arguments.Goals as goal

pub returns-in_err-added : goal.returns-in_err-added
returns-in_err-added c =
    let failed : c.from_residual.result ≡ Err c.in_err-added.field-0.0 = first_of (cc, search rules) in
    rw failed
    (missed _ _ c.in_err-added.field-0.0
    (same_missed _ _ c.in_err-added.field-0.0
    (ap (function.type_first (answers_in c.args.scope) (units_at c.args.scope.world.now) (context_of c.args.scope) c.args.first.now.at (typings_of c.args.args)) (sym c.called_class-class.ensures))
    c.in_err-added.ensures))

pub returns : goal.returns
returns c =
    go_on constructor_of _ _ (added_of c.in_ok-added.added) c.with_first.result
    (ap (function.type_first (answers_in c.args.scope) (units_at c.args.scope.world.now) (context_of c.args.scope) c.args.first.now.at (typings_of c.args.args)) (sym c.called_class-class.ensures)
    ∙ c.in_ok-added.ensures) c.with_first.ensures
