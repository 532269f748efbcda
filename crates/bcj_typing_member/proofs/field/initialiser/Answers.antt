use Rattle.std.proofs.Common.{◌∙◌, ap, sym}
use Rattle.bcj_parser_trees.specs.Plain as source
use Rattle.bcj_decl_table.specs.Views.{field_of_info}
use Rattle.bcj_typing_rules.specs.Members.{initialiser_context}
use Rattle.bcj_typing_scope.specs.Surroundings.{answers_at, units_at}
use Rattle.bcj_typing_member.proofs.Missing.{initialised_moved}
use Rattle.bcj_typing_member.proofs.field.initialiser.Goals as goal

pub returns : goal.returns
returns c =
    initialised_moved _ _ _ _ c.args.at (field_of_info c.args.field.now) (source.expr_of c.args.e.now) c.in_scope.result (ap answers_at c.initialiser_scope-scope.ensures.world)
    (c.initialiser_scope-scope.ensures.context ∙ ap (λ n. initialiser_context (units_at c.args.world.now) n c.args.field.now.is_static) (sym c.requires)) c.in_scope.ensures
