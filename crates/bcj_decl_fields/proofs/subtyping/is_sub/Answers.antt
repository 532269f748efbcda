use Rattle.std.proofs.Common.{sym, ◌∙◌}
use Rattle.bcj_decl_table.specs.Views.{world_in}
use Rattle.bcj_decl_fields.proofs.Places.{sub_none, sub_some}
use Rattle.bcj_decl_fields.proofs.subtyping.is_sub.Goals as goal

pub returns-in-None : goal.returns-in-None
returns-in-None c = sub_none (world_in c.args.listing.now.types) c.args.name.now c.args.other.now (sym c.same.ensures.test ∙ c.if-same.false) (sym c.place.ensures ∙ c.in-None.is)

pub returns-in-Some : goal.returns-in-Some
returns-in-Some c =
    c.is_above.ensures
    ∙ sub_some (world_in c.args.listing.now.types) c.args.orders.now c.requires c.args.name.now c.args.other.now c.in-Some.place (sym c.same.ensures.test ∙ c.if-same.false) (sym c.place.ensures ∙ c.in-Some.is)
