use Rattle.std.proofs.Common.{◌≡◌, ◌∙◌, ap, sym, subst, refl, Option}
use Rattle.std.specs.Prelude.{IfSome, IsSomeAnd}
use Rattle.bcj_parser_trees.specs.Plain as source
use Rattle.bcj_decl_rules.specs.World.{Field}
use Rattle.bcj_typing_rules.specs.Members.{Added}
use Rattle.bcj_typing_rules.specs.function.Expressions.{Outcome}
use Rattle.bcj_typing_rules.specs.function.Members as function
use Rattle.bcj_typing_node.specs.Outcomes.{Tells}
use Rattle.bcj_typing_scope.specs.Surroundings.{answers_at, units_at}
use Rattle.bcj_typing_member.specs.Gathered.{outcome_map}
use Rattle.bcj_typing_member.specs.Parts.{instance_in}
use Rattle.bcj_typing_member.specs.Typed.{added_of}
use Rattle.bcj_typing_member.proofs.Missing.{instance_is}
use Rattle.bcj_typing_member.proofs.OwnFields.{own_member}
use Rattle.bcj_typing_member.proofs.initial.with_part.Goals as goal

pub with_option-requires : goal.with_option-requires
with_option-requires c =
    let found =
    own_member (units_at c.args.world.now) c.requires.declared c.args.world.now.own c.args.world.now.decl c.requires.own c.args.member.now c.requires.member c.in-Field.at c.in-Field.mods c.in-Field.ty c.in-Field.name
    (source.option_of c.in-Field.init) (ap source.member_of c.in-Field.is) in
    let P : Option Field → Type 0 = λ o. IsSomeAnd o (λ g. g.class ≡ c.args.world.now.decl.name) in
    subst P (sym found) refl

pub returns-in-Field : goal.returns-in-Field
returns-in-Field c =
    let a = answers_at c.args.world.now in
    let us = units_at c.args.world.now in
    let t = source.type_of c.args.world.now.decl in
    let found =
    own_member us c.requires.declared c.args.world.now.own c.args.world.now.decl c.requires.own c.args.member.now c.requires.member c.in-Field.at c.in-Field.mods c.in-Field.ty c.in-Field.name
    (source.option_of c.in-Field.init) (ap source.member_of c.in-Field.is) in
    let P : Option Field → Type 0 = λ o.
    IfSome o (λ g. Tells added_of (outcome_map (function.both_added (added_of c.args.added)) (instance_in a us c.in-Field.at g (source.option_of c.in-Field.init))) c.with_option.result) in
    let Q : Outcome Added → Type 0 = λ o. Tells added_of (outcome_map (function.both_added (added_of c.args.added)) o) c.with_option.result in
    subst Q
    (sym
    (ap (λ m. function.type_instance a us t (source.member_of m)) c.in-Field.is
    ∙ instance_is a us t c.in-Field.at c.in-Field.mods c.in-Field.ty c.in-Field.name (source.option_of c.in-Field.init))) (subst P found c.with_option.ensures)
