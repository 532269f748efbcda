use Rattle.std.proofs.Common.{◌≡◌, Bool}
use Rattle.std.specs.Bool.{Decides}
use Rattle.bcj_parser_trees.specs.Plain.{body_of, type_of}
use Rattle.bcj_decl_rules.specs.World.{Declared, declared_type, method_with}
use Rattle.bcj_decl_rules.specs.Subtypes.{direct_supertypes}
use Rattle.bcj_decl_table.specs.Views.{method_of_info, world_in}
use Rattle.bcj_decl_listing.specs.Places.{steps_from}
use Rattle.bcj_decl_graph.proofs.Within.{starts_within}
use Rattle.bcj_decl_member_faults.specs.Decisions.{Clash, IsWrongMethod}
use Rattle.bcj_decl_member_faults.proofs.Bad.{if_ok, wrong_method}
use Rattle.bcj_decl_member_faults.proofs.wrong.is_wrong_method.Goals as goal

pub clashes-requires-clause-starts : goal.clashes-requires-clause-starts
clashes-requires-clause-starts c =
    starts_within (world_in c.args.listing.now.types) c.args.steps.now (direct_supertypes (declared_type (type_of c.args.decl.now))) c.args.above.now c.requires.steps c.requires.above

pub returns : goal.returns
returns c =
    if_ok
    (λ (b : Bool). (t : Declared) → c.args.above.now ≡ steps_from (world_in c.args.listing.now.types) t → Decides b (Clash (world_in c.args.listing.now.types) t (method_of_info c.in_ok-method.method)))
    (λ (b : Bool).
    Decides b
    (IsWrongMethod (world_in c.args.listing.now.types) (type_of c.args.decl.now) c.args.mods c.args.params.now (body_of c.args.body.now)
    (method_with c.args.decl.now.interface c.args.decl.now.name c.args.mods c.args.outcome.now c.args.name.now c.args.params.now)))
    (λ b h.
    wrong_method (world_in c.args.listing.now.types) (type_of c.args.decl.now) c.args.mods c.args.params.now (body_of c.args.body.now) c.args.outcome.now c.args.name.now c.in_ok-is_wrong_in_itself.field-0
    c.in_ok-is_wrong_in_itself.ensures c.if-branch.false (method_of_info c.in_ok-method.method) c.in_ok-method.ensures b (h (declared_type (type_of c.args.decl.now)) c.requires.above))
    c.clashes.result c.clashes.ensures
