use Rattle.std.proofs.Common.{subst}
use Rattle.bcj_parser_trees.specs.Plain as source
use Rattle.bcj_parser_trees.specs.Trees as parsed
use Rattle.bcj_typing_rules.specs.function.Expressions.{Outcome}
use Rattle.bcj_typing_rules.specs.function.Members as function
use Rattle.bcj_typing_node.specs.Outcomes.{Tells}
use Rattle.bcj_typing_scope.specs.Surroundings.{answers_at, units_at}
use Rattle.bcj_typing_member.specs.Typed.{constructor_of}
use Rattle.bcj_typing_member.proofs.constructor.written.Goals as goal

pub returns : goal.returns
returns c =
    let P : Outcome function.TypedMember → Type 0 = λ o. Tells constructor_of o c.with_call.result in
    subst P
    (λ i. function.type_constructor (answers_at (c.in_ok-scope.ensures.world i)) (units_at (c.in_ok-scope.ensures.world i)) (c.in_ok-scope.ensures.context i) (c.in_ok-types.ensures i) c.args.is_private c.args.first.now.at
    (parsed.first_call c.args.first.now.at c.args.first.now.to_super (source.exprs_of c.args.first.now.args)) (source.stmts_of c.args.body.now)) c.with_call.ensures
