use Rattle.std.proofs.Common.{◌≡◌, ℕ, ◌*◌, ◌≤◌, take}
use Rattle.std.specs.Ordering.{nat_cmp}
use Rattle.std.specs.BTreeMap.{get}
use Rattle.bcj_asm.specs.Forms.{place_in, sizes}
use Rattle.bcj_asm.proofs.places.find_places.Given as goal

abbrev pub invariant-loop-formed : goal.invariant-loop-formed
invariant-loop-formed l = record {
  named : (q : ℕ) → get nat_cmp l.labels.named q ≡ place_in 0 (take l.formed-index l.forms) q;
  words : l.labels.words ≡ sizes (take l.formed-index l.forms);
  few : l.labels.words ≤ 2 * l.formed-index;
}
