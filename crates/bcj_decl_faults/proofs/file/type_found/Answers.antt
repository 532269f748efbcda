use Rattle.std.proofs.Common.{Option, sym, subst, length}
use Rattle.std.specs.Option.{option_map}
use Rattle.bcj_parser_trees.specs.Plain as tree
use Rattle.bcj_decl_table.specs.Views.{world_in}
use Rattle.bcj_decl_faults.specs.Refusals.{spot_of}
use Rattle.bcj_decl_faults.specs.Spots.{Spot, IsLeast}
use Rattle.bcj_decl_faults.specs.Parts.{Below, HeadSpot, MemberSpot, TypeSpot}
use Rattle.bcj_decl_faults.proofs.Least.{least_of_two}
use Rattle.bcj_decl_faults.proofs.file.type_found.Goals as goal

pub returns : goal.returns
returns c = λ before s.
    let w = world_in c.args.listing.now.types in
    let t = tree.type_of c.args.decl.now in
    let P : Option Spot → Type 0 = λ o. IsLeast (TypeSpot w before t) o in
    subst P (sym c.earlier.ensures)
    (least_of_two (HeadSpot w before t) (Below (MemberSpot w t) (length t.members)) (option_map spot_of c.in_ok-of_head.of_head) (option_map spot_of c.in_ok-of_members.of_members)
    (c.in_ok-of_head.ensures before s) c.in_ok-of_members.ensures)
