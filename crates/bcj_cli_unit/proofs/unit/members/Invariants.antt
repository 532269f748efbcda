use Rattle.std.proofs.Common.{◌≡◌, drop, map}
use Rattle.bcj_parser_trees.specs.Plain.{member_of}
use Rattle.bcj_cli_unit.specs.Lacking.{members_lack}
use Rattle.bcj_cli_unit.proofs.unit.members.Given as goal

abbrev pub invariant-loop-one : goal.invariant-loop-one
invariant-loop-one l = members_lack (map member_of (drop l.one-index l.all)) ≡ members_lack (map member_of l.all)
