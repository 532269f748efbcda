use Rattle.std.proofs.Common.{◌∙◌, sym, false}
use Rattle.bcj_decl_table.specs.Views.{method_of_info, declared_of, world_in}
use Rattle.bcj_decl_head_faults.proofs.Bodies.{may_lack_by}
use Rattle.bcj_decl_head_faults.proofs.ancestor.may_lack.Goals as goal

pub returns : goal.returns
returns c =
    c.lacks_body.ensures
    ∙ may_lack_by (world_in c.args.listing.now.types) (declared_of c.args.info.now) (method_of_info c.args.method.now) false false c.if-method.false (sym c.is_constructor.ensures ∙ c.if-is_constructor.false)
