use Rattle.std.proofs.Common.{◌<◌, ◌+◌, length, get_or, arith, refl}
use Rattle.bcj_decl_constants.specs.Needs.{fields_in}
use Rattle.bcj_decl_constants.proofs.Standing.{found_at, place_within, number_below, number_is, number_none}
use Rattle.bcj_decl_constants.proofs.numbers.number_of.Goals as goal

pub returns-in-None : goal.returns-in-None
returns-in-None g c = number_none (g.L.FieldSearch.world c.args.search.now) _ c.in-None.ensures.value

pub offset_at-requires : goal.offset_at-requires
offset_at-requires g c = place_within (g.L.FieldSearch.world c.args.search.now) c.args.offsets.now _ _ _ c.requires.offsets (found_at _ _ _ _ c.in-Some.ensures.value (c.in-Some.ensures.found refl))

pub overflow_add-result : goal.overflow_add-result
overflow_add-result g c =
    let below : get_or c.args.offsets.now c.in-Some.place 0 + c.in-Some.position < length (fields_in (g.L.FieldSearch.world c.args.search.now)) =
    number_below (g.L.FieldSearch.world c.args.search.now) c.args.offsets.now _ c.in-Some.place c.in-Some.position 0 c.requires.offsets (found_at _ _ _ _ c.in-Some.ensures.value (c.in-Some.ensures.found refl)) in
    omega (arith, below, c.requires.small, c.offset_at.ensures)

pub returns-in-Some : goal.returns-in-Some
returns-in-Some g c =
    rw c.offset_at.ensures
    (number_is (g.L.FieldSearch.world c.args.search.now) c.args.offsets.now _ _ _ 0 c.requires.offsets (found_at _ _ _ _ c.in-Some.ensures.value (c.in-Some.ensures.found refl)))
