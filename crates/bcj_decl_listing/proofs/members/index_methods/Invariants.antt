use Rattle.std.proofs.Common.{◌≡◌, ◌++◌, List, [], ℕ, drop, map}
use Rattle.std.specs.Option.{option_map_or}
use Rattle.std.specs.HashMap.{get_by_text}
use Rattle.bcj_decl_table.specs.Views.{method_of_info}
use Rattle.bcj_decl_listing.specs.Places.{positions_from}
use Rattle.bcj_decl_listing.proofs.members.index_methods.Given as goal

-- the methods before are noted, and the others of the name stand further on
abbrev pub invariant-loop-i : goal.invariant-loop-i
invariant-loop-i l =
    (q : List ℕ) → option_map_or (λ g. g.items) (get_by_text l.index q) [] ++ positions_from l.i q (map method_of_info (drop l.i l.methods)) ≡ positions_from 0 q (map method_of_info l.methods)
