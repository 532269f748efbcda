use Rattle.std.proofs.Common.{◌≡◌, List, ℕ, drop, map}
use Rattle.std.specs.List.{position_from}
use Rattle.std.specs.Option.{option_or}
use Rattle.std.specs.HashMap.{get_by_text}
use Rattle.bcj_decl_rules.specs.Members.{field_named}
use Rattle.bcj_decl_table.specs.Views.{field_of_info}
use Rattle.bcj_decl_listing.proofs.members.index_fields.Given as goal

-- the fields before are noted, and the first of another name stands further on
abbrev pub invariant-loop-i : goal.invariant-loop-i
invariant-loop-i l =
    (q : List ℕ) → option_or (get_by_text l.index q) (position_from (field_named q) l.i (map field_of_info (drop l.i l.fields))) ≡ position_from (field_named q) 0 (map field_of_info l.fields)
