use Rattle.std.proofs.Common.{slice_index_or, refl, arith}
use Rattle.bcj_asm.proofs.Steps.{sizes_more, place_more, size_few, some_formed}
use Rattle.bcj_asm.proofs.places.find_places.Goals as goal

pub loop-formed-preserved : goal.loop-formed-preserved
loop-formed-preserved c =
    let i = c.loop-formed.formed-index in
    let x = slice_index_or c.args.forms.now i some_formed in
    let more = sizes_more c.args.forms.now i x some_formed c.loop-formed-test.true refl in
    record {
      named = λ q. rw (
        c.in_ok-pass.ensures.named q,
        c.loop-formed.invariant.named q,
        c.loop-formed.invariant.words,
        place_more c.args.forms.now i x some_formed q c.loop-formed-test.true refl,
      ) refl;
      words = omega (arith, more, c.in_ok-pass.ensures.words, c.loop-formed.invariant.words);
      few = omega (arith, size_few x.form x.item, c.in_ok-pass.ensures.words, c.loop-formed.invariant.few);
    }
