use Rattle.std.proofs.Common.{◌≡◌, ◌*◌, ◌≤◌, take}
use Rattle.bcj_asm.specs.Forms.{places_in, sizes}
use Rattle.bcj_asm.proofs.places.item_places.Given as goal

abbrev pub invariant-loop-formed : goal.invariant-loop-formed
invariant-loop-formed l = record {
  places : l.places ≡ places_in 0 (take l.formed-index l.forms);
  here : l.here ≡ sizes (take l.formed-index l.forms);
  few : l.here ≤ 2 * l.formed-index;
}
