use Rattle.std.proofs.Common.{◌≡◌, true, ap, ◌∙◌, map}
use Rattle.std.specs.Str.{bytes_eq}
use Rattle.bcj_parser_trees.specs.Plain.{member_of, type_of}
use Rattle.bcj_decl_rules.specs.World.{initialiser_in, initialiser_of}
use Rattle.bcj_decl_table.specs.Views.{field_of_info}
use Rattle.bcj_typing_rules.specs.Context.{is_absent}
use Rattle.bcj_decl.specs.Worlds.{units_in}
use Rattle.bcj_typing_scope.specs.Surroundings.{Surroundings, units_at}
use Rattle.bcj_typing_scope.proofs.Initialisers.{own_initialiser}
use Rattle.bcj_typing_scope.proofs.world.World.is_blank.Goals as goal

pub returns : goal.returns
returns c =
    let d = c.self.inside.decls.now in
    let decl = c.self.inside.decl.now in
    let f = c.args.field.now in
    let named : bytes_eq f.class decl.name ≡ true = ap (λ (s : Surroundings). bytes_eq f.class s.decl.name) c.self.view_is ∙ c.requires in
    c.is_blank_in.ensures
    ∙ (ap (λ ms. is_absent (initialiser_in f.name (map member_of ms))) c.as_slice.ensures
    ∙ (ap is_absent (own_initialiser (units_in d) d.own (type_of decl) (field_of_info f) c.self.invariant.declared c.self.invariant.own named)
    ∙ ap (λ (s : Surroundings). is_absent (initialiser_of (units_at s) (field_of_info f))) c.self.view_is))
