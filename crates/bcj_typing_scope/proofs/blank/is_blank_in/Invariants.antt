use Rattle.std.proofs.Common.{◌≡◌, map, drop}
use Rattle.bcj_parser_trees.specs.Plain.{member_of}
use Rattle.bcj_decl_rules.specs.World.{initialiser_in}
use Rattle.bcj_typing_rules.specs.Context.{is_absent}
use Rattle.bcj_typing_scope.proofs.blank.is_blank_in.Given as goal

abbrev pub invariant-loop-member : goal.invariant-loop-member
invariant-loop-member l =
    is_absent (initialiser_in l.name (map member_of (drop l.member-index l.members))) ≡ is_absent (initialiser_in l.name (map member_of l.members))
