use Rattle.std.proofs.Common.{◌≡◌, arith}
use Rattle.std.proofs.lemmas.Grind.{common_steps}
use Rattle.bcj_decl_table.specs.Views.{world_in}
use Rattle.bcj_decl_listing.specs.Places.{steps_of_world}
use Rattle.bcj_decl_graph.proofs.Rules.{step_rules}
use Rattle.bcj_decl_graph.proofs.Within.{steps_within}
use Rattle.bcj_decl_graph.proofs.steps.steps_of_listing.Goals as goal

pub returns-clause-within : goal.returns-clause-within
returns-clause-within c =
    let whole : c.loop-info.steps ≡ steps_of_world (world_in c.args.listing.now.types) = grind (arith, common_steps, step_rules) in
    steps_within (world_in c.args.listing.now.types) c.loop-info.steps whole
