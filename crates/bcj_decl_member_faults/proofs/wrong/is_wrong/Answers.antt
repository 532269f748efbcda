use Rattle.std.proofs.Common.{List, IfOk, sym, subst}
use Rattle.std.specs.Bool.{Decides}
use Rattle.bcj_parser_trees.specs.declared.names.Param.{Param}
use Rattle.bcj_parser_trees.specs.declared.unit.Member.{Member}
use Rattle.bcj_parser_trees.specs.Plain.{body_of, member_of, type_of}
use Rattle.bcj_decl_rules.specs.World.{method_with}
use Rattle.bcj_decl_table.specs.Views.{world_in}
use Rattle.bcj_decl_member_faults.specs.Decisions.{IsWrong, IsWrongMethod}
use Rattle.bcj_decl_member_faults.proofs.wrong.is_wrong.Goals as goal

pub returns-in-Method : goal.returns-in-Method
returns-in-Method c =
    let P : Member → Type 0 = λ m. IfOk c.is_wrong_method.result (λ b. Decides b (IsWrong (world_in c.args.listing.now.types) (type_of c.args.decl.now) (member_of m))) in
    let Q : List Param → Type 0 = λ ps.
    IfOk c.is_wrong_method.result
    (λ b.
    Decides b
    (IsWrongMethod (world_in c.args.listing.now.types) (type_of c.args.decl.now) c.in-Method.mods ps (body_of c.in-Method.body)
    (method_with c.args.decl.now.interface c.args.decl.now.name c.in-Method.mods c.in-Method.outcome c.in-Method.name ps)))
    in
    subst P (sym c.in-Method.is) (subst Q c.as_slice.ensures c.is_wrong_method.ensures)
