use Rattle.std.proofs.Common.{◌∙◌, ap, subst, refl, [], List, false}
use Rattle.bcj_parser_trees.specs.Trees as source
use Rattle.bcj_typing_rules.specs.Context.{superclass_at}
use Rattle.bcj_typing_rules.specs.Members.{Added, constructor_context, initialiser_context}
use Rattle.bcj_typing_rules.specs.function.Expressions.{Outcome}
use Rattle.bcj_typing_rules.specs.function.Members as function
use Rattle.bcj_typing_node.specs.Outcomes.{Tells}
use Rattle.bcj_typing_node.specs.Typings.{typings_of}
use Rattle.bcj_typing_scope.specs.Surroundings.{answers_at, units_at}
use Rattle.bcj_typing_member.specs.Typed.{added_of}
use Rattle.bcj_typing_member.proofs.Missing.{first_alike}
use Rattle.bcj_typing_member.proofs.constructor.unwritten_call.Goals as goal

pub returns : goal.returns
returns c =
    let us : List source.PlainUnit = units_at c.args.world.now in
    let n = c.args.world.now.decl.name in
    let P : Outcome Added → Type 0 = λ o. Tells added_of o c.first_call.result in
    let world = c.initialiser_scope-scope.ensures.world in
    let context = c.initialiser_scope-scope.ensures.context in
    let above = c.superclass.ensures ∙ ap superclass_at context in
    subst P
    ((λ i. function.type_first (answers_at (world i)) (units_at (world i)) (context i) c.args.at (typings_of (c.new-2.ensures i)) (above i))
    ∙ first_alike (answers_at c.args.world.now) us (initialiser_context us n false) (constructor_context us n []) refl c.args.at [] (superclass_at (initialiser_context us n false)))
    c.first_call.ensures
