use Rattle.std.proofs.Common.{◌≡◌, map, take}
use Rattle.bcj_decl_table.specs.Views.{field_of_info}
use Rattle.bcj_decl.specs.Filled.{numbers_of}
use Rattle.bcj_decl.proofs.filling.set_constants.Given as goal

abbrev pub invariant-loop-at : goal.invariant-loop-at
invariant-loop-at l =
    (map field_of_info l.fields ≡ map field_of_info l.fn.fields) × (map (λ f. f.constant) (take l.at l.fields) ≡ numbers_of (take l.at l.values))
