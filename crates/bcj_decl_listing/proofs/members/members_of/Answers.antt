use Rattle.std.proofs.Common.{rules}
use Rattle.bcj_decl_table.specs.Views.{declared_of}
use Rattle.bcj_decl_listing.proofs.AgreementLemmas.{members_next}
use Rattle.bcj_decl_listing.proofs.members.members_of.Goals as goal

pub loop-info-preserved : goal.loop-info-preserved
loop-info-preserved c =
    search (rules, members_next declared_of c.args.types.now c.loop-info.info-index c.info-item.result c.loop-info.members.items c.in_ok-index_members.field-0 c.loop-info-test.true c.loop-info.invariant)
