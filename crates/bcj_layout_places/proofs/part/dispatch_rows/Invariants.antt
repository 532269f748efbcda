use Rattle.std.proofs.Common.{◌≡◌, ◌+◌, ◌*◌, sum, take}
use Rattle.bcj_layout_rules.specs.Places.{word_size}
use Rattle.bcj_layout_places.proofs.Parts.{AreFirstRows}
use Rattle.bcj_layout_places.proofs.part.dispatch_rows.Given as goal

abbrev pub invariant-loop-words : goal.invariant-loop-words
invariant-loop-words l = record {
  placed : AreFirstRows l.empty l.own l.sizes l.words-index l.places;
  behind : l.next ≡ l.own + word_size * sum (take l.words-index l.sizes);
}
