use Rattle.std.proofs.Common.{length, map}
use Rattle.bcj_parser_trees.specs.Plain as tree
use Rattle.bcj_decl_member_faults.proofs.Chain.{begins, meets, goes_on, ends, falls}
use Rattle.bcj_decl_member_faults.proofs.earlier.stands_before.Goals as goal

pub loop-at-init : goal.loop-at-init
loop-at-init c = begins (map tree.member_of c.args.members.now) c.args.earlier.now c.args.position (length c.args.members.now) c.requires.each c.requires.within c.requires.all

pub returns-then-is_again : goal.returns-then-is_again
returns-then-is_again c =
    meets tree.member_of c.args.members.now c.args.position c.in-Some.k c.index-members-position.result c.index-members-k.result c.loop-at.at c.is_again.result c.requires.within c.index-members-position.is
    (c.loop-at.invariant.1 c.in-Some.k c.in-Some.is) c.index-members-k.is c.in-Some.is c.loop-at.invariant.0 c.is_again.ensures c.if-is_again.true

pub loop-at-smaller : goal.loop-at-smaller
loop-at-smaller c =
    falls (map tree.member_of c.args.members.now) c.args.earlier.now c.in-Some.k (length c.args.members.now) c.loop-at.at c.in-Some.is c.requires.each (c.loop-at.invariant.1 c.in-Some.k c.in-Some.is) c.requires.all

pub loop-at-preserved : goal.loop-at-preserved
loop-at-preserved c =
    goes_on tree.member_of c.args.members.now c.args.earlier.now c.args.position c.in-Some.k c.index-members-position.result c.index-members-k.result c.loop-at.at c.is_again.result c.requires.within c.index-members-position.is
    (c.loop-at.invariant.1 c.in-Some.k c.in-Some.is) c.index-members-k.is c.in-Some.is c.loop-at.invariant.0 c.is_again.ensures c.if-is_again.false c.requires.each c.requires.all

pub returns : goal.returns
returns c = ends (map tree.member_of c.args.members.now) c.args.position c.loop-at.at c.in_default.is c.loop-at.invariant.0
