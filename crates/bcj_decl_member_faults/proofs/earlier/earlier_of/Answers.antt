use Rattle.bcj_parser_trees.specs.Plain as tree
use Rattle.bcj_decl_member_faults.proofs.Chain.{taken_in}
use Rattle.bcj_decl_member_faults.proofs.earlier.earlier_of.Goals as goal

pub loop-i-preserved : goal.loop-i-preserved
loop-i-preserved c =
    taken_in tree.member_of c.args.members.now c.loop-i.i c.index-members-i.result c.loop-i.places c.note.new.places c.loop-i.earlier.items c.push.new.self.items c.in_ok-before.before c.loop-i-test.true c.index-members-i.is
    c.loop-i.invariant c.in_ok-before.ensures.old c.in_ok-before.ensures.new c.in_ok-push.ensures.items
