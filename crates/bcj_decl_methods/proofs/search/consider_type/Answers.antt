use Rattle.std.proofs.Common.{List, ℕ, ◌∙◌, ap}
use Rattle.std.specs.List.{flat_map}
use Rattle.std.specs.Option.{option_to_list}
use Rattle.bcj_decl_rules.specs.World.{Method}
use Rattle.bcj_decl_table.specs.Views.{world_in}
use Rattle.bcj_decl_methods.specs.Search.{method_at, shown}
use Rattle.bcj_decl_methods.proofs.Passing.{part_onward, parts_end}
use Rattle.bcj_decl_methods.proofs.Positions.{positions_offered}
use Rattle.bcj_decl_methods.proofs.search.consider_type.Goals as goal

pub loop-at-preserved : goal.loop-at-preserved
loop-at-preserved c =
    let offers : ℕ → List Method = λ at. shown c.args.all (option_to_list (method_at (world_in c.args.listing.now.types) (record { class = c.args.place; at = at }))) in
    part_onward _ _ _ offers c.method_positions-at-items.result.now c.loop-at.at-index 0 _ _ _ _ c.loop-at.invariant c.loop-at-test.true c.consider_at-contest.ensures

pub returns : goal.returns
returns c =
    let offers : ℕ → List Method = λ at. shown c.args.all (option_to_list (method_at (world_in c.args.listing.now.types) (record { class = c.args.place; at = at }))) in
    parts_end _ _ _ offers c.method_positions-at-items.result.now c.loop-at.at-index _ _ _ _ c.loop-at.invariant c.loop-at-test.false
    (ap (flat_map offers) c.method_positions-at-items.ensures ∙ positions_offered c.args.all (world_in c.args.listing.now.types) c.args.call.name.now c.args.place)
