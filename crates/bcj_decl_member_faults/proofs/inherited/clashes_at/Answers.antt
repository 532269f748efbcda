use Rattle.std.proofs.Common.{ap, map}
use Rattle.bcj_decl_table.specs.Views.{declared_of, method_of_info, world_in}
use Rattle.bcj_decl_member_faults.proofs.Clashes.{clashes_in, type_is}
use Rattle.bcj_decl_member_faults.proofs.inherited.clashes_at.Goals as goal

pub returns-in-Some : goal.returns-in-Some
returns-in-Some c =
    clashes_in (world_in c.args.listing.now.types) (method_of_info c.args.method.now) c.args.place (declared_of c.in-Some.info.now) _ _ _ c.has_clash.ensures (ap (map method_of_info) c.as_slice.ensures)
    c.method_positions.ensures (type_is declared_of c.args.listing.now.types c.args.place c.in-Some.info.now c.in-Some.ensures.value)
