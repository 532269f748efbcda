use Rattle.std.proofs.Common.{◌≡◌, ◌++◌, map, take}
use Rattle.bcj_decl_table.specs.Views.{field_of_info}
use Rattle.bcj_decl_constants.proofs.build.push_fields.Given as goal

-- the fields before are there
abbrev pub invariant-loop-field : goal.invariant-loop-field
invariant-loop-field l = map (λ r. field_of_info r.now) l.fields.items ≡ map (λ r. field_of_info r.now) l.fn.fields.items ++ map field_of_info (take l.field-index l.fn.info.fields)
