use Rattle.std.proofs.Common.{◌∙◌, ap, sym, subst, List}
use Rattle.bcj_parser_trees.specs.Plain as source
use Rattle.bcj_symbolic_trees.specs.Types.{PlainTy, types_of}
use Rattle.bcj_typing_rules.specs.Members as spec
use Rattle.bcj_typing_rules.specs.function.Expressions.{result, and_then, type_exprs}
use Rattle.bcj_typing_rules.specs.function.Statements.{run_all}
use Rattle.bcj_typing_rules.specs.function.Members as function
use Rattle.bcj_typing_node.specs.Outcomes.{Tells}
use Rattle.bcj_typing_node.specs.Typings.{typings_of}
use Rattle.bcj_typing_scope.specs.declared.scope.Scope.{Scope}
use Rattle.bcj_typing_scope.specs.Scopes.{answers_in, context_of}
use Rattle.bcj_typing_scope.specs.Surroundings.{units_at}
use Rattle.bcj_typing_member.specs.Typed.{constructor_of}
use Rattle.bcj_typing_member.proofs.Missing.{go_on}
use Rattle.bcj_typing_member.proofs.constructor.with_call.Goals as goal

pub returns : goal.returns
returns c =
    let T : Scope → List PlainTy → Type 0 = λ s types.
    Tells constructor_of
    (and_then (function.type_first (answers_in s) (units_at s.world.now) (context_of s) c.args.first.now.at (typings_of c.in_ok-args.args) (spec.called_class (context_of s) c.args.first.now.to_super))
    (λ x. and_then (run_all (answers_in s) (context_of s) types (source.stmts_of c.args.body.now)) (λ b. result (function.typed_constructor c.args.is_private (types_of c.args.params) x c.args.first.now.to_super b))))
    c.with_arguments.result in
    go_on constructor_of _ _ (typings_of c.in_ok-args.args) c.with_arguments.result
    (ap (λ l. type_exprs (answers_in c.args.scope) (spec.before_this (context_of c.args.scope)) (source.exprs_of l)) (sym c.as_slice.ensures) ∙ c.in_ok-args.ensures.typings)
    (subst (λ ts. T c.args.scope ts) c.requires.types (subst (λ s. T s (types_of s.types)) c.in_ok-args.ensures.same c.with_arguments.ensures))
