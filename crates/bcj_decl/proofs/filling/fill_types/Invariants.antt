use Rattle.std.proofs.Common.{◌≡◌, ◌++◌, map, take, drop, length}
use Rattle.bcj_decl_table.specs.Views.{declared_of}
use Rattle.bcj_decl.specs.Filled.{constants_in, infos_in, numbers_of}
use Rattle.bcj_decl.proofs.filling.fill_types.Given as goal

abbrev pub invariant-loop-at : goal.invariant-loop-at
invariant-loop-at l =
    (map declared_of l.types ≡ map declared_of l.fn.types)
    × (constants_in (take l.at l.types) ++ numbers_of l.rest ≡ numbers_of l.values)
    × (length (infos_in (drop l.at l.types)) ≡ length l.rest)
