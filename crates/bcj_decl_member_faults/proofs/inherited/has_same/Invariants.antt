use Rattle.std.proofs.Common.{◌≡◌, drop, map}
use Rattle.std.specs.List.{list_any}
use Rattle.bcj_decl_rules.specs.Members.{same_signature}
use Rattle.bcj_decl_table.specs.Views.{method_of_info}
use Rattle.bcj_decl_member_faults.specs.Inherited.{method_at}
use Rattle.bcj_decl_member_faults.proofs.inherited.has_same.Given as goal

abbrev pub invariant-loop-position : goal.invariant-loop-position
invariant-loop-position l =
    list_any (method_at (same_signature (method_of_info l.method)) (map method_of_info l.methods)) (drop l.position-index l.positions)
    ≡ list_any (method_at (same_signature (method_of_info l.method)) (map method_of_info l.methods)) l.positions
