use Rattle.std.proofs.Common.{slice_index_or, refl, arith}
use Rattle.bcj_asm.proofs.Steps.{some_formed, sizes_more, placed_more, size_few}
use Rattle.bcj_asm.proofs.places.item_places.Goals as goal

pub loop-formed-preserved : goal.loop-formed-preserved
loop-formed-preserved c =
    let i = c.loop-formed.formed-index in
    let x = slice_index_or c.args.forms.now i some_formed in
    let more = sizes_more c.args.forms.now i x some_formed c.loop-formed-test.true refl in
    record {
      places = placed_more c.args.forms.now i x some_formed c.loop-formed.places c.push.new.self c.loop-formed.here
          c.loop-formed-test.true refl c.in_ok-push.ensures.ok c.loop-formed.invariant.places c.loop-formed.invariant.here;
      here = omega (arith, more, c.size-here.ensures.exact, c.loop-formed.invariant.here);
      few = omega (arith, size_few x.form x.item, c.size-here.ensures.exact, c.loop-formed.invariant.few);
    }
