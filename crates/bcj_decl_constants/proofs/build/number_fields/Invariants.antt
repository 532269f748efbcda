use Rattle.std.proofs.Common.{◌≡◌, ◌++◌, map, drop, length}
use Rattle.bcj_decl_table.specs.Views.{field_of_info, world_in}
use Rattle.bcj_decl_constants.specs.Needs.{fields_in}
use Rattle.bcj_decl_constants.specs.Numbers.{offsets_from}
use Rattle.bcj_decl_constants.proofs.build.number_fields.Given as goal

-- the fields before are there, and the offsets of the other types follow
abbrev pub invariant-loop-info : goal.invariant-loop-info
invariant-loop-info l =
    (l.offsets.items ++ offsets_from (length l.fields.items) (world_in (drop l.info-index l.types)) ≡ offsets_from 0 (world_in l.types))
    × (map (λ r. field_of_info r.now) l.fields.items ++ fields_in (world_in (drop l.info-index l.types)) ≡ fields_in (world_in l.types))
