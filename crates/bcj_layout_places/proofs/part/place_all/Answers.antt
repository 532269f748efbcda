use Rattle.std.proofs.Common.{arith}
use Rattle.bcj_layout_places.proofs.Parts.{more-behind, one-placed, all-placed}
use Rattle.bcj_layout_places.proofs.part.place_all.Goals as goal

pub loop-words-preserved : goal.loop-words-preserved
loop-words-preserved c = record {
  placed = one-placed c.args.at c.args.sizes.now c.loop-words.words-index c.loop-words.places c.push.new.self c.loop-words.next c.loop-words.invariant.placed c.loop-words.invariant.behind
      c.in_ok-push.ensures.ok;
  behind = more-behind c.args.at c.args.sizes.now c.loop-words.words-index c.loop-words.next c.in_ok-next.next c.loop-words-test.true c.loop-words.invariant.behind c.in_ok-next.ensures;
}

pub returns : goal.returns
returns c =
    all-placed c.args.at c.args.sizes.now c.loop-words.words-index _ (omega arith)
    (one-placed c.args.at c.args.sizes.now c.loop-words.words-index c.loop-words.places c.push-2.new.self c.loop-words.next c.loop-words.invariant.placed c.loop-words.invariant.behind
    c.in_ok-push-2.ensures.ok)
    c.loop-words.invariant.behind
