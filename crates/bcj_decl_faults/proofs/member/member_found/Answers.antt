use Rattle.std.proofs.Common.{◌≡◌, ◌∙◌, Option, Some, take, slice_get, get_or, ap, subst}
use Rattle.bcj_parser_trees.specs.Plain as tree
use Rattle.bcj_decl_table.specs.Views.{world_in}
use Rattle.bcj_decl_member_faults.specs.declared.member.MemberRefusal.{MemberRefusal}
use Rattle.bcj_decl_member_faults.specs.Refusal as member
use Rattle.bcj_decl_faults.proofs.Turned.{no_member, least_member}
use Rattle.bcj_decl_faults.proofs.Placing.{item_at}
use Rattle.bcj_decl_faults.proofs.member.member_found.Goals as goal

pub returns-in-None-clause-least : goal.returns-in-None-clause-least
returns-in-None-clause-least c =
    let w = world_in c.args.context.now.listing.now.types in
    let t = tree.type_of c.args.decl.now in
    let members = c.args.decl.now.members in
    let k = c.args.position in
    let x = c.index-as_slice-position.result in
    let is : x ≡ get_or members k x = c.index-as_slice-position.is ∙ ap (λ l. get_or l k x) c.as_slice.ensures in
    let at : slice_get t.members k ≡ Some (tree.member_of x) = item_at tree.member_of members k x c.requires.within is in
    let P : Option MemberRefusal → Type 0 = λ o. member.IsFirstRefusal w t (take k t.members) (tree.member_of x) o in
    no_member w t k (tree.member_of x) at (subst P c.in-None.is (c.in_ok-member_refusal.ensures.first (tree.member_of x) at))

pub returns-in-Some-clause-least : goal.returns-in-Some-clause-least
returns-in-Some-clause-least c =
    let w = world_in c.args.context.now.listing.now.types in
    let t = tree.type_of c.args.decl.now in
    let members = c.args.decl.now.members in
    let k = c.args.position in
    let x = c.index-as_slice-position.result in
    let is : x ≡ get_or members k x = c.index-as_slice-position.is ∙ ap (λ l. get_or l k x) c.as_slice.ensures in
    let at : slice_get t.members k ≡ Some (tree.member_of x) = item_at tree.member_of members k x c.requires.within is in
    let P : Option MemberRefusal → Type 0 = λ o. member.IsFirstRefusal w t (take k t.members) (tree.member_of x) o in
    least_member w t k (tree.member_of x) c.first_byte.result _ _ at c.first_byte.ensures c.of_member.ensures (subst P c.in-Some.is (c.in_ok-member_refusal.ensures.first (tree.member_of x) at))
