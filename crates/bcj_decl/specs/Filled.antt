-- Constants by the numbers of the fields.
use Rattle.std.specs.Prelude.{◌≡◌, ℤ, List, map, Option, None, Some}
use Rattle.std.specs.List.{flat_map}
use Rattle.std.specs.Option.{option_map}
use Rattle.bcj_decl_rules.specs.declared.value.Value.{Value}
use Rattle.bcj_decl_table.specs.declared.info.FieldInfo.{FieldInfo}
use Rattle.bcj_decl_table.specs.declared.info.TypeInfo.{TypeInfo}
use Rattle.bcj_decl_table.specs.Views.{declared_of, field_of_info}
use Rattle.bcj_decl.specs.Worlds.{number_of}

-- the fields of all types in their order
abbrev pub infos_in : List TypeInfo → List FieldInfo
infos_in ts = flat_map (λ t. t.fields) ts

-- what they hold as constants
abbrev pub constants_in : List TypeInfo → List (Option ℤ)
constants_in ts = map (λ f. f.constant) (infos_in ts)

abbrev pub numbers_of : List (Option Value) → List (Option ℤ)
numbers_of values = map (option_map number_of) values
