use Rattle.std.proofs.Common.{◌≡◌, sym, subst, Some, List}
use Rattle.std.specs.Prelude.{IfOk}
use Rattle.bcj_symbolic_trees.specs.Types.{PlainTy, ty_of, types_of}
use Rattle.bcj_decl_rules.specs.World as decl
use Rattle.bcj_typing_rules.specs.Context.{Context, no_finals}
use Rattle.bcj_typing_rules.specs.Members as spec
use Rattle.bcj_typing_scope.specs.Scopes.{context_of}
use Rattle.bcj_typing_scope.specs.Surroundings.{units_at}
use Rattle.bcj_typing_member.proofs.method.scope_of.Goals as goal

pub returns-clause-context : goal.returns-clause-context
returns-clause-context c =
    let P : Context → Type 0 = λ k. IfOk c.body_scope.result (λ s. context_of s ≡ k) in
    subst P
    (λ i. spec.body_of (units_at c.args.world.now) (sym c.requires i) (c.is_static.ensures i) (Some (ty_of (c.in_ok-outcome.ensures i))) no_finals
    (spec.params_from (spec.first_param (c.is_static.ensures i)) c.args.params.now)) c.body_scope.ensures.context

pub returns-clause-types : goal.returns-clause-types
returns-clause-types c =
    let P : List PlainTy → Type 0 = λ k. IfOk c.body_scope.result (λ s. types_of s.types ≡ k) in
    subst P (λ i. spec.first_types (sym c.requires i) (c.is_static.ensures i) (decl.param_types c.args.params.now)) c.body_scope.ensures.types
