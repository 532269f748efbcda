use Rattle.std.proofs.Common.{◌∙◌, ap}
use Rattle.bcj_decl_rules.specs.Faults.{first_unknown}
use Rattle.bcj_decl_table.specs.Views.{world_in}
use Rattle.bcj_decl_head_faults.proofs.Twice.{unknown_first, unknown_later}
use Rattle.bcj_decl_head_faults.proofs.name.unknown_name.Goals as goal

pub returns-in-Some : goal.returns-in-Some
returns-in-Some c =
    let w = world_in c.args.listing.now.types in
    unknown_first w c.args.decl.now.extends c.args.decl.now.implements c.in-Some.name.now (c.in-Some.ensures ∙ ap (first_unknown w) c.as_slice.ensures)

pub returns-in-None : goal.returns-in-None
returns-in-None c =
    let w = world_in c.args.listing.now.types in
    unknown_later w c.args.decl.now.extends c.args.decl.now.implements _ (c.in-None.ensures ∙ ap (first_unknown w) c.as_slice.ensures)
    (c.unknown_among-in-None.ensures ∙ ap (first_unknown w) c.as_slice-in-None.ensures)
