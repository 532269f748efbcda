use Rattle.std.proofs.Common.{◌≡◌, Bool, List, Some, get_or, map, slice_get, take, subst}
use Rattle.std.specs.Bool.{Decides}
use Rattle.std.specs.List.{list_any}
use Rattle.bcj_parser_trees.specs.declared.unit.Member.{Member}
use Rattle.bcj_parser_trees.specs.Trees.{PlainMember}
use Rattle.bcj_parser_trees.specs.Plain.{member_of, type_of}
use Rattle.bcj_decl_table.specs.Views.{world_in}
use Rattle.bcj_decl_member_faults.specs.Decisions.{IsBad, IsWrong}
use Rattle.bcj_decl_member_faults.specs.Earlier.{is_again}
use Rattle.bcj_decl_member_faults.proofs.Bad.{if_ok}
use Rattle.bcj_decl_member_faults.proofs.First.{bad_before, bad_in_itself}
use Rattle.bcj_decl_member_faults.proofs.member.is_bad.Goals as goal

pub returns-then-stands_before : goal.returns-then-stands_before
returns-then-stands_before c =
    let P : List Member → Type 0 = λ ys. (m : PlainMember) → slice_get (map member_of ys) c.args.position ≡ Some m → c.stands_before.result ≡ list_any (is_again m) (take c.args.position (map member_of ys)) in
    bad_before member_of c.args.decl.now.members c.args.position (world_in c.args.listing.now.types) (type_of c.args.decl.now) c.stands_before.result (subst P c.as_slice-members.ensures c.stands_before.ensures) c.if-stands_before.true

pub returns : goal.returns
returns c =
    let P : List Member → Type 0 = λ ys. (m : PlainMember) → slice_get (map member_of ys) c.args.position ≡ Some m → c.stands_before.result ≡ list_any (is_again m) (take c.args.position (map member_of ys)) in
    let item : c.index-members-position.result ≡ get_or c.args.decl.now.members c.args.position c.index-members-position.result = cc (c.index-members-position.is, c.as_slice-members.ensures) in
    if_ok (λ (b : Bool). Decides b (IsWrong (world_in c.args.listing.now.types) (type_of c.args.decl.now) (member_of c.index-members-position.result)))
    (λ (b : Bool).
    (m : PlainMember) → slice_get (map member_of c.args.decl.now.members) c.args.position ≡ Some m
    → Decides b (IsBad (world_in c.args.listing.now.types) (type_of c.args.decl.now) (take c.args.position (map member_of c.args.decl.now.members)) m))
    (λ b wrong.
    bad_in_itself member_of c.args.decl.now.members c.args.position c.index-members-position.result (world_in c.args.listing.now.types) (type_of c.args.decl.now) c.stands_before.result b c.requires.within item
    (subst P c.as_slice-members.ensures c.stands_before.ensures) c.if-stands_before.false wrong)
    c.is_wrong.result c.is_wrong.ensures
