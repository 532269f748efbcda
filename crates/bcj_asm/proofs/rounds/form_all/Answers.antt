use Rattle.std.proofs.Common.{◌∙◌, length}
use Rattle.bcj_asm.proofs.Rounding.{first_round, one_round_less, no_more_rounds, longs_few, as_many_next}
use Rattle.bcj_asm.proofs.rounds.form_all.Goals as goal

pub loop-turn-init : goal.loop-turn-init
loop-turn-init c =
    let e = c.in_ok-forms.ensures in
    record {
      forms = first_round c.args.items.now c.in_ok-forms.forms.items e;
      few = rw (e, longs_few c.args.items.now) c.requires;
    }

pub returns-then-not-round : goal.returns-then-not-round
returns-then-not-round c =
    no_more_rounds (length c.args.items.now) c.loop-turn._turn c.loop-turn.forms.items c.as_slice.result.now
    c.in_ok-round.round.forms.items c.in_ok-round.round.changed _ c.as_slice.ensures.value c.in_ok-round.ensures.forms
    c.in_ok-round.ensures.same c.if-not-round.true c.loop-turn.invariant.forms

pub loop-turn-preserved : goal.loop-turn-preserved
loop-turn-preserved c =
    let e = c.in_ok-round.ensures.forms in
    let v = c.as_slice.ensures.value in
    record {
      forms = one_round_less (length c.args.items.now) c.loop-turn._turn c.loop-turn.forms.items
          c.in_ok-round.round.forms.items c.loop-turn-test.true (rw v at e) ∙ c.loop-turn.invariant.forms;
      few = rw (e, as_many_next c.as_slice.result.now, v) c.loop-turn.invariant.few;
    }
