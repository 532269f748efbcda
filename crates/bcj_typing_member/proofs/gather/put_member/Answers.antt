use Rattle.std.proofs.Common.{◌≡◌, ap, sym, subst, refl, Option}
use Rattle.std.specs.Prelude.{IfSome, IsSomeAnd}
use Rattle.bcj_parser_trees.specs.declared.unit.Member.{Member}
use Rattle.bcj_parser_trees.specs.Plain as source
use Rattle.bcj_symbolic_trees.specs.Types.{types_of}
use Rattle.bcj_decl_rules.specs.World.{Field}
use Rattle.bcj_typing_rules.specs.function.Members as function
use Rattle.bcj_typing_node.specs.Outcomes.{Tells}
use Rattle.bcj_typing_scope.specs.Surroundings.{answers_at, units_at}
use Rattle.bcj_typing_member.specs.Gathered.{outcome_map, with_member}
use Rattle.bcj_typing_member.specs.Typed.{members_of}
use Rattle.bcj_typing_member.proofs.OwnFields.{own_member}
use Rattle.bcj_typing_member.proofs.gather.put_member.Goals as goal

pub put_field-requires : goal.put_field-requires
put_field-requires c =
    let found =
    own_member (units_at c.args.world.now) c.requires.declared c.args.world.now.own c.args.world.now.decl c.requires.own c.args.member.now c.requires.member c.in-Field.at c.in-Field.mods c.in-Field.ty c.in-Field.name
    (source.option_of c.in-Field.init) (ap source.member_of c.in-Field.is) in
    let P : Option Field → Type 0 = λ o. IsSomeAnd o (λ f. f.class ≡ c.args.world.now.decl.name) in
    subst P (sym found) refl

pub returns-in-Field : goal.returns-in-Field
returns-in-Field c =
    let a = answers_at c.args.world.now in
    let us = units_at c.args.world.now in
    let found =
    own_member us c.requires.declared c.args.world.now.own c.args.world.now.decl c.requires.own c.args.member.now c.requires.member c.in-Field.at c.in-Field.mods c.in-Field.ty c.in-Field.name
    (source.option_of c.in-Field.init) (ap source.member_of c.in-Field.is) in
    let P : Option Field → Type 0 = λ o.
    IfSome o (λ f. Tells members_of (outcome_map (with_member (members_of c.args.members)) (function.type_field a us c.in-Field.at f (source.option_of c.in-Field.init))) c.put_field.result) in
    let Q : Member → Type 0 = λ m.
    Tells members_of (outcome_map (with_member (members_of c.args.members)) (function.type_member a us (source.type_of c.args.world.now.decl) (types_of c.args.members.types) (source.member_of m))) c.put_field.result in
    subst Q (sym c.in-Field.is) (subst P found c.put_field.ensures)
