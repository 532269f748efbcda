use Rattle.std.proofs.Common.{◌≡◌}
use Rattle.std.specs.Option.{option_map}
use Rattle.bcj_parser_trees.specs.Plain as tree
use Rattle.bcj_decl_table.specs.Views.{world_in}
use Rattle.bcj_decl_faults.specs.Refusals.{spot_of}
use Rattle.bcj_decl_faults.specs.Spots.{IsLeast}
use Rattle.bcj_decl_faults.specs.Parts.{Below, MemberSpot}
use Rattle.bcj_decl_faults.proofs.member.least_of_members.Given as goal

abbrev pub invariant-loop-position : goal.invariant-loop-position
invariant-loop-position l = record {
  least : IsLeast (Below (MemberSpot (world_in l.initial.context.listing.now.types) (tree.type_of l.decl)) l.position) (option_map spot_of l.least);
  listing : l.context.listing.now ≡ l.initial.context.listing.now;
  steps : l.context.steps.now ≡ l.initial.context.steps.now;
}
