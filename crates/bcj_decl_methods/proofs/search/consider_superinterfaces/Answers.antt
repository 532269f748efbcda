use Rattle.std.proofs.Common.{false, ap}
use Rattle.std.specs.List.{flat_map}
use Rattle.bcj_decl_table.specs.Views.{world_in}
use Rattle.bcj_decl_methods.specs.Search.{offered}
use Rattle.bcj_decl_methods.proofs.Passing.{part_onward, parts_end}
use Rattle.bcj_decl_methods.proofs.search.consider_superinterfaces.Goals as goal

pub loop-other-preserved : goal.loop-other-preserved
loop-other-preserved c =
    part_onward _ _ _ (offered false (world_in c.args.listing.now.types) c.args.call.name.now) c.places_above-other-items.result.now c.loop-other.other-index 0 _ _ _ _ c.loop-other.invariant
    c.loop-other-test.true
    c.consider_type-contest.ensures

pub returns : goal.returns
returns c =
    parts_end _ _ _ (offered false (world_in c.args.listing.now.types) c.args.call.name.now) c.places_above-other-items.result.now c.loop-other.other-index _ _ _ _ c.loop-other.invariant
    c.loop-other-test.false
    (ap (flat_map (offered false (world_in c.args.listing.now.types) c.args.call.name.now)) c.places_above-other-items.ensures)
