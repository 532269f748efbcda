use Rattle.std.proofs.Common.{sym, subst, option_map}
use Rattle.bcj_parser_trees.specs.Plain as source
use Rattle.bcj_symbolic_trees.specs.Units as symbolic
use Rattle.bcj_typing_rules.specs.function.Expressions.{Outcome}
use Rattle.bcj_typing_node.specs.Outcomes.{Tells}
use Rattle.bcj_typing_scope.specs.Surroundings.{answers_at, units_at}
use Rattle.bcj_typing_member.specs.Typed.{added_of, members_of}
use Rattle.bcj_typing_member.proofs.Gathering.{class_found, instances_alone}
use Rattle.bcj_typing_member.proofs.classes.class.Goals as goal

pub assembled-requires-clause-instances : goal.assembled-requires-clause-instances
assembled-requires-clause-instances c = instances_alone (answers_at c.args.world.now) (units_at c.args.world.now) (source.type_of c.args.world.now.decl) (members_of c.in_ok-members.members) c.in_ok-members.ensures

pub returns : goal.returns
returns c =
    let P : Outcome symbolic.PlainClass → Type 0 = λ o. Tells symbolic.class_of o c.assembled.result in
    subst P
    (sym
    (class_found (answers_at c.args.world.now) (units_at c.args.world.now) (source.type_of c.args.world.now.decl) (members_of c.in_ok-members.members) (option_map added_of c.in_ok-default.default) c.in_ok-members.ensures
    c.in_ok-default.ensures)) c.assembled.ensures
