use Rattle.std.proofs.Common.{◌≡◌, drop}
use Rattle.bcj_decl_rules.specs.Faults.{first_unknown}
use Rattle.bcj_decl_table.specs.Views.{world_in}
use Rattle.bcj_decl_member_faults.proofs.known.unknown_among.Given as goal

abbrev pub invariant-loop-name : goal.invariant-loop-name
invariant-loop-name l = first_unknown (world_in l.listing.types) (drop l.name-index l.names) ≡ first_unknown (world_in l.listing.types) l.names
