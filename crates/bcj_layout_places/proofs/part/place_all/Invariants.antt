use Rattle.std.proofs.Common.{◌≡◌, ◌+◌, ◌*◌, sum, take}
use Rattle.bcj_layout_rules.specs.Places.{word_size}
use Rattle.bcj_layout_places.proofs.Parts.{AreFirst}
use Rattle.bcj_layout_places.proofs.part.place_all.Given as goal

abbrev pub invariant-loop-words : goal.invariant-loop-words
invariant-loop-words l = record {
  placed : AreFirst l.at l.sizes l.words-index l.places;
  behind : l.next ≡ l.at + word_size * sum (take l.words-index l.sizes);
}
