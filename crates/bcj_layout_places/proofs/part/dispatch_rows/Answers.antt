use Rattle.std.proofs.Common.{arith}
use Rattle.bcj_layout_places.proofs.Parts.{more-behind, one-row, all-rows}
use Rattle.bcj_layout_places.proofs.part.dispatch_rows.Goals as goal

pub loop-words-preserved : goal.loop-words-preserved
loop-words-preserved c = record {
  placed = one-row c.args.empty c.args.own c.args.sizes.now c.loop-words.words-index c.loop-words.places c.push.new.self c.loop-words.next c.row_place.result c.loop-words.invariant.placed
      c.loop-words.invariant.behind c.row_place.ensures c.in_ok-push.ensures.ok;
  behind = more-behind c.args.own c.args.sizes.now c.loop-words.words-index c.loop-words.next c.in_ok-next.next c.loop-words-test.true c.loop-words.invariant.behind c.in_ok-next.ensures;
}

pub returns : goal.returns
returns c = all-rows c.args.empty c.args.own c.args.sizes.now c.loop-words.words-index _ (omega arith) c.loop-words.invariant.placed c.loop-words.invariant.behind
