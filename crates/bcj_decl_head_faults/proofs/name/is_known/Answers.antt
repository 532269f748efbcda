use Rattle.std.proofs.Common.{ap}
use Rattle.std.specs.Option.{is_some}
use Rattle.bcj_decl_table.specs.Views.{world_in}
use Rattle.bcj_decl_head_faults.proofs.Twice.{known_by_place}
use Rattle.bcj_decl_head_faults.proofs.name.is_known.Goals as goal

pub returns : goal.returns
returns c = let known = known_by_place 0 (world_in c.args.listing.now.types) c.args.name.now in cc (ap is_some c.place.ensures)
