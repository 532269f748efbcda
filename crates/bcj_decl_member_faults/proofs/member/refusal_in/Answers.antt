use Rattle.std.proofs.Common.{◌≡◌, get_or, sym, ◌∙◌, ap}
use Rattle.std.specs.Option.{option_copied}
use Rattle.bcj_parser_trees.specs.Plain.{member_of, type_of}
use Rattle.bcj_decl_table.specs.Views.{world_in}
use Rattle.bcj_decl_member_faults.proofs.First.{refuses_unknown, refuses_bad, refuses_none}
use Rattle.bcj_decl_member_faults.proofs.member.refusal_in.Goals as goal

pub returns-in-Some : goal.returns-in-Some
returns-in-Some c =
    let item : c.index-members-position.result ≡ get_or c.args.decl.now.members c.args.position c.index-members-position.result = cc (c.index-members-position.is, c.as_slice-members.ensures) in
    refuses_unknown member_of c.args.decl.now.members c.args.position c.index-members-position.result (world_in c.args.listing.now.types) (type_of c.args.decl.now) c.in-Some.name.now c.in_ok-copy.field-0 c.requires.within item
    c.in-Some.ensures c.in_ok-copy.ensures

pub returns-then-branch : goal.returns-then-branch
returns-then-branch c =
    let item : c.index-members-position.result ≡ get_or c.args.decl.now.members c.args.position c.index-members-position.result = cc (c.index-members-position.is, c.as_slice-members.ensures) in
    refuses_bad member_of c.args.decl.now.members c.args.position c.index-members-position.result (world_in c.args.listing.now.types) (type_of c.args.decl.now) c.in_ok-is_bad.field-0 c.requires.within item
    (ap option_copied (sym c.in_default.is) ∙ c.first_unknown.ensures) c.in_ok-is_bad.ensures c.if-branch.true

pub returns-else-branch : goal.returns-else-branch
returns-else-branch c =
    let item : c.index-members-position.result ≡ get_or c.args.decl.now.members c.args.position c.index-members-position.result = cc (c.index-members-position.is, c.as_slice-members.ensures) in
    refuses_none member_of c.args.decl.now.members c.args.position c.index-members-position.result (world_in c.args.listing.now.types) (type_of c.args.decl.now) c.in_ok-is_bad.field-0 c.requires.within item
    (ap option_copied (sym c.in_default.is) ∙ c.first_unknown.ensures) c.in_ok-is_bad.ensures c.if-branch.false
