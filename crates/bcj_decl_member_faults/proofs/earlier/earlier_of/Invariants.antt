use Rattle.std.proofs.Common.{◌≡◌, length, map}
use Rattle.bcj_parser_trees.specs.Plain as tree
use Rattle.bcj_decl_member_faults.specs.Earlier.{AreEarlier}
use Rattle.bcj_decl_member_faults.specs.Last.{AreLast}
use Rattle.bcj_decl_member_faults.proofs.earlier.earlier_of.Given as goal

abbrev pub invariant-loop-i : goal.invariant-loop-i
invariant-loop-i l =
    AreLast (map tree.member_of l.members) l.i l.places
    × AreEarlier (map tree.member_of l.members) l.earlier.items
    × (length l.earlier.items ≡ l.i)
