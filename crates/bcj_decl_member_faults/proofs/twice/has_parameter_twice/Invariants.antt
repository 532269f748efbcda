use Rattle.std.proofs.Common.{◌≡◌, List, ℕ, false, drop}
use Rattle.std.specs.HashSet.{contains_text}
use Rattle.std.specs.List.{list_any}
use Rattle.std.specs.Str.{bytes_eq}
use Rattle.bcj_decl_rules.specs.Faults.{stands_twice, param_names}
use Rattle.bcj_decl_member_faults.proofs.twice.has_parameter_twice.Given as goal

-- those behind are seen, each name once
abbrev pub invariant-loop-i : goal.invariant-loop-i
invariant-loop-i l =
    ((q : List ℕ) → contains_text l.seen q ≡ list_any (bytes_eq q) (param_names (drop l.i l.params)))
    × (stands_twice (param_names (drop l.i l.params)) ≡ false)
