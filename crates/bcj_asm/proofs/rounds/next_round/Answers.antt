use Rattle.std.proofs.Common.{slice_index_or, refl, arith}
use Rattle.bcj_asm.specs.function.Places.{named_place, form_at}
use Rattle.bcj_asm.proofs.Steps.{some_formed, sizes_more, size_few}
use Rattle.bcj_asm.proofs.Rounding.{round_more, round_same, named_target}
use Rattle.bcj_asm.proofs.rounds.next_round.Goals as goal

pub loop-formed-preserved : goal.loop-formed-preserved
loop-formed-preserved c =
    let i = c.loop-formed.formed-index in
    let xs = c.args.forms.now in
    let x = slice_index_or xs i some_formed in
    let t = named_place c.in_ok-labels.labels.named in
    let more = sizes_more xs i x some_formed c.loop-formed-test.true refl in
    record {
      forms = round_more t xs i x some_formed c.loop-formed.round.forms.items c.pass.new.self.forms.items
          c.loop-formed.round.words c.loop-formed-test.true refl
          (named_target c.in_ok-labels.labels.named xs c.in_ok-labels.ensures.named)
          c.loop-formed.invariant.words c.in_ok-pass.ensures.forms c.loop-formed.invariant.forms;
      same = λ h. round_same xs i x some_formed c.loop-formed.round.forms.items c.pass.new.self.forms.items
          (form_at t c.loop-formed.round.words x.form x.item) c.loop-formed-test.true refl c.in_ok-pass.ensures.forms
          (c.in_ok-pass.ensures.same h) (c.loop-formed.invariant.same (c.in_ok-pass.ensures.before h));
      words = omega (arith, more, c.in_ok-pass.ensures.words, c.loop-formed.invariant.words);
      few = omega (arith, size_few x.form x.item, c.in_ok-pass.ensures.words, c.loop-formed.invariant.few);
    }
