use Rattle.std.proofs.Common.{◌≡◌, drop, map}
use Rattle.std.specs.List.{find}
use Rattle.bcj_decl_rules.specs.Faults.{can_implement}
use Rattle.bcj_decl_table.specs.Views.{method_of_info}
use Rattle.bcj_decl_head_faults.proofs.body.implementing.Given as goal

abbrev pub invariant-loop-other : goal.invariant-loop-other
invariant-loop-other l =
    find (can_implement (method_of_info l.method)) (map method_of_info (drop l.other-index l.info.methods)) ≡ find (can_implement (method_of_info l.method)) (map method_of_info l.info.methods)
