use Rattle.std.proofs.Common.{◌≡◌, drop, map}
use Rattle.std.specs.List.{list_any}
use Rattle.bcj_decl_rules.specs.Members.{same_signature}
use Rattle.bcj_decl_table.specs.Views.{method_of_info}
use Rattle.bcj_decl_head_faults.proofs.body.declares.Given as goal

abbrev pub invariant-loop-other : goal.invariant-loop-other
invariant-loop-other l =
    list_any (same_signature (method_of_info l.method)) (map method_of_info (drop l.other-index l.info.methods)) ≡ list_any (same_signature (method_of_info l.method)) (map method_of_info l.info.methods)
