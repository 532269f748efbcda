use Rattle.std.proofs.Common.{slice_index_or, refl, arith}
use Rattle.bcj_asm.specs.function.Places.{named_place}
use Rattle.bcj_asm.proofs.Steps.{some_formed, sizes_more, sizes_room}
use Rattle.bcj_asm.proofs.Emitting.{emitted_more, fits_here}
use Rattle.bcj_asm.proofs.assembling.emit_all.Goals as goal

pub emit-requires-clause-room : goal.emit-requires-clause-room
emit-requires-clause-room c =
    let i = c.loop-formed.formed-index in
    let x = slice_index_or c.args.forms.now i some_formed in
    let room = sizes_room c.args.forms.now i x some_formed c.loop-formed-test.true refl in
    omega (arith, room, c.loop-formed.invariant.len, c.requires.words)

pub emit-requires-clause-fits : goal.emit-requires-clause-fits
emit-requires-clause-fits c =
    let i = c.loop-formed.formed-index in
    let x = slice_index_or c.args.forms.now i some_formed in
    fits_here (named_place c.args.labels.now.named) c.args.forms.now i x some_formed _ c.loop-formed-test.true refl
    c.loop-formed.invariant.len c.requires.fit

pub loop-formed-preserved : goal.loop-formed-preserved
loop-formed-preserved c =
    let i = c.loop-formed.formed-index in
    let x = slice_index_or c.args.forms.now i some_formed in
    let more = sizes_more c.args.forms.now i x some_formed c.loop-formed-test.true refl in
    record {
      words = emitted_more (named_place c.args.labels.now.named) c.args.forms.now i x some_formed c.loop-formed.code c.emit.new.code
          c.loop-formed-test.true refl c.loop-formed.invariant.len c.in_ok-emit.ensures.words c.loop-formed.invariant.words;
      len = omega (arith, more, c.in_ok-emit.ensures.len, c.loop-formed.invariant.len);
    }
