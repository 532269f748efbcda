use Rattle.std.proofs.Common.{◌≡◌, Err, rules, List, [], subst, refl, true}
use Rattle.bcj_parser_trees.specs.Trees as source
use Rattle.bcj_symbolic_trees.specs.Types.{PlainTy, types_of}
use Rattle.bcj_typing_rules.specs.Context.{superclass_at}
use Rattle.bcj_typing_rules.specs.Members.{Added, constructor_context}
use Rattle.bcj_typing_rules.specs.function.Expressions.{Outcome, result, and_then}
use Rattle.bcj_typing_rules.specs.function.Members as function
use Rattle.bcj_typing_node.specs.Outcomes.{Tells}
use Rattle.bcj_typing_scope.specs.Surroundings.{answers_at, units_at}
use Rattle.bcj_typing_member.specs.Typed.{constructor_of, effects_of}
use Rattle.bcj_typing_member.proofs.Missing.{missed, go_on, first_alike}
use Rattle.bcj_typing_member.proofs.constructor.without_call.Goals as goal

pub returns-in_err-typed : goal.returns-in_err-typed
returns-in_err-typed c =
    let failed : c.from_residual-in_err-typed.result ≡ Err c.in_err-typed.field-0.0 = first_of (cc, search rules) in
    rw failed (missed _ _ c.in_err-typed.field-0.0 c.in_err-typed.ensures)

pub returns : goal.returns
returns c =
    let us : List source.PlainUnit = units_at c.args.world.now in
    let n = c.args.world.now.decl.name in
    let P : Outcome Added → List PlainTy → Type 0 = λ o ps.
    Tells constructor_of (and_then o (λ first. result (function.typed_constructor c.args.is_private ps first true (effects_of c.in_ok-typed.typed)))) c.with_unwritten.result in
    let alike = first_alike (answers_at c.args.world.now) us (constructor_context us n []) (constructor_context us n c.args.params.now) refl c.args.at [] (superclass_at (constructor_context us n [])) in
    go_on constructor_of _ _ (effects_of c.in_ok-typed.typed) c.with_unwritten.result c.in_ok-typed.ensures
    (subst (λ ps. P (function.type_first (answers_at c.args.world.now) us (constructor_context us n c.args.params.now) c.args.at [] (superclass_at (constructor_context us n c.args.params.now))) ps) c.in_ok-types.ensures
    (subst (λ o. P o (types_of c.in_ok-types.types)) alike c.with_unwritten.ensures))
