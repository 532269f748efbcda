use Rattle.std.proofs.Common.{false, length}
use Rattle.bcj_decl_table.specs.Views.{world_in}
use Rattle.bcj_decl_methods.specs.Search.{offered}
use Rattle.bcj_decl_methods.proofs.Passing.{climb_onward, climb_ends, climb_stops}
use Rattle.bcj_decl_methods.proofs.search.consider_superclasses.Goals as goal

pub returns-in_default : goal.returns-in_default
returns-in_default c = climb_ends _ _ _ (offered false (world_in c.args.listing.now.types) c.args.call.name.now) _ _ _ _ _ c.loop-step.invariant c.in_default.is

pub loop-step-preserved : goal.loop-step-preserved
loop-step-preserved c =
    climb_onward _ _ _ (offered false (world_in c.args.listing.now.types) c.args.call.name.now) (length c.args.listing.now.types) c.loop-step.step _ _ c.in-Some.class _ _ _ _ _ c.loop-step.invariant
    c.loop-step-test.true
    c.len-step-end.ensures
    c.in-Some.is
    c.superclass-next-in-loop-step.ensures
    c.consider_type-contest.ensures

pub returns : goal.returns
returns c =
    climb_stops _ _ _ (offered false (world_in c.args.listing.now.types) c.args.call.name.now) (length c.args.listing.now.types) c.loop-step.step _ _ _ _ _ c.loop-step.invariant c.loop-step-test.false
    c.len-step-end.ensures
