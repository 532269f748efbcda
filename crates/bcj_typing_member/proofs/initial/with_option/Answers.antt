use Rattle.std.proofs.Common.{◌≡◌, sym, subst, Option}
use Rattle.std.specs.Prelude.{IfSome}
use Rattle.bcj_parser_trees.specs.declared.expression.Expr.{Expr}
use Rattle.bcj_parser_trees.specs.Plain as source
use Rattle.bcj_decl_rules.specs.Members.{field_of}
use Rattle.bcj_typing_rules.specs.function.Expressions.{result}
use Rattle.bcj_typing_rules.specs.function.Members as function
use Rattle.bcj_typing_node.specs.Outcomes.{Tells}
use Rattle.bcj_typing_scope.specs.Surroundings.{answers_at, units_at, world_around}
use Rattle.bcj_typing_member.specs.Gathered.{outcome_map}
use Rattle.bcj_typing_member.specs.Parts.{instance_in}
use Rattle.bcj_typing_member.specs.Typed.{added_of}
use Rattle.bcj_typing_member.proofs.Gathering.{ends_both}
use Rattle.bcj_typing_member.proofs.Missing.{if_all}
use Rattle.bcj_typing_member.proofs.initial.with_option.Goals as goal

pub returns-in-None : goal.returns-in-None
returns-in-None c =
    let a = answers_at c.args.world.now in
    let us = units_at c.args.world.now in
    if_all _ (field_of (world_around c.args.world.now) c.args.world.now.decl.name c.args.name.now)
    (λ f.
    let P : Option Expr → Type 0 = λ i. outcome_map (function.both_added (added_of c.args.added)) (instance_in a us c.args.at f (source.option_of i)) ≡ result (added_of c.args.added) in
    subst P (sym c.in-None.is) (ends_both (added_of c.args.added)))

pub returns-in-Some : goal.returns-in-Some
returns-in-Some c =
    let a = answers_at c.args.world.now in
    let us = units_at c.args.world.now in
    let P : Option Expr → Type 0 = λ i.
    IfSome (field_of (world_around c.args.world.now) c.args.world.now.decl.name c.args.name.now)
    (λ f. Tells added_of (outcome_map (function.both_added (added_of c.args.added)) (instance_in a us c.args.at f (source.option_of i))) c.with_field.result) in
    subst P (sym c.in-Some.is) c.with_field.ensures
