use Rattle.std.proofs.Common.{◌≡◌, ◌≤◌, ◌+◌, ◌∙◌, ℕ, Option, map, length, sym, subst, arith}
use Rattle.std.proofs.lemmas.List.{length-map}
use Rattle.std.specs.Option.{option_map}
use Rattle.bcj_parser_trees.specs.Plain as tree
use Rattle.bcj_decl_table.specs.Views.{world_in}
use Rattle.bcj_decl_listing.specs.declared.listing.Listing.{Listing}
use Rattle.bcj_decl_faults.specs.Refusals.{spot_of}
use Rattle.bcj_decl_faults.specs.Spots.{Spot, IsLeast}
use Rattle.bcj_decl_faults.specs.Parts.{Below, MemberSpot}
use Rattle.bcj_decl_faults.proofs.Least.{least_below}
use Rattle.bcj_decl_faults.proofs.member.least_of_members.Goals as goal

pub loop-position-preserved : goal.loop-position-preserved
loop-position-preserved c =
    let w = world_in c.args.context.now.listing.now.types in
    let t = tree.type_of c.args.decl.now in
    let k = c.loop-position.position in
    let P : Listing → Type 0 = λ l. IsLeast (MemberSpot (world_in l.types) t k) (option_map spot_of c.in_ok-member_found.field-0) in
    let Q : Option Spot → Type 0 = λ o. IsLeast (Below (MemberSpot w t) (k + 1)) o in
    let here_it : IsLeast (MemberSpot w t k) (option_map spot_of c.in_ok-member_found.field-0) = subst P c.loop-position.invariant.listing c.in_ok-member_found.ensures.least in
    record {
      least = subst Q (sym c.earlier-least.ensures) (least_below (MemberSpot w t) k (option_map spot_of c.loop-position.least) (option_map spot_of c.in_ok-member_found.field-0) c.loop-position.invariant.least here_it);
      listing = c.in_ok-member_found.ensures.listing ∙ c.loop-position.invariant.listing;
      steps = c.in_ok-member_found.ensures.steps ∙ c.loop-position.invariant.steps;
    }

pub returns : goal.returns
returns c =
    let w = world_in c.args.context.now.listing.now.types in
    let t = tree.type_of c.args.decl.now in
    let P : ℕ → Type 0 = λ n. IsLeast (Below (MemberSpot w t) n) (option_map spot_of c.loop-position.least) in
    let past : c.len-position-end.result ≤ c.loop-position.position = c.loop-position-test.false in
    let end : c.loop-position.position ≤ c.len-position-end.result = c.loop-position.auto.position-end in
    let all : c.loop-position.position ≡ length (map tree.member_of c.args.decl.now.members) = omega (arith, past, end, c.len-position-end.ensures, length-map c.args.decl.now.members tree.member_of) in
    subst P all c.loop-position.invariant.least
