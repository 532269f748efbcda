use Rattle.std.proofs.Common.{◌≡◌, ap, ◌∙◌, [], ◌∷◌}
use Rattle.bcj_symbolic_trees.specs.Types.{class_type, given}
use Rattle.bcj_symbolic_trees.proofs.PlainLemmas.{ty-Class}
use Rattle.bcj_typing_rules.specs.declared.kind.Kind.TheVariants as kind
use Rattle.bcj_typing_rules.specs.Premises.{need, earliest_missing}
use Rattle.bcj_typing_rules.specs.Statements.{throwable}
use Rattle.bcj_typing_rules.specs.function.Expressions.{fits}
use Rattle.bcj_typing_scope.specs.Scopes.{answers_in}
use Rattle.bcj_typing_statement.proofs.asks.lacking.Goals as goal

pub returns : goal.returns
returns c =
    let class = ty-Class c.in_ok-copy.field-0 ∙ ap class_type c.in_ok-copy.ensures in
    let thrown : c.fits-fits.result ≡ fits (answers_in c.args.scope.now) (given (class_type c.args.one.now.class)) throwable =
    c.fits-fits.ensures ∙ (λ i. fits (answers_in c.args.scope.now) (given (class i)) (c.requires i)) in
    c.lacks_catch.ensures
    ∙ (λ i. earliest_missing (need kind.Name (c.has_type-is_there.ensures i) ∷ need kind.Local (c.is_new_local-is_new.ensures i) ∷ need kind.Throwable (thrown i) ∷ []))
