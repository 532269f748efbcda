use Rattle.std.proofs.Common.{◌≡◌, ◌||◌, ◌+◌, ◌∙◌, Bool, ℕ, length, subst, sym, ap, arith}
use Rattle.bcj_hier.specs.Loads.{IsRound}
use Rattle.bcj_hier.proofs.Sound.{round_more, round_settled}
use Rattle.bcj_hier.proofs.loading.Loading.round.Goals as goal
use Rattle.bcj_hier.proofs.loading.Loading.round.Goals.{then-visit, else-visit}

pub loop-number-preserved : goal.loop-number-preserved
loop-number-preserved c =
    let P : Bool → Type 0 = λ b. IsRound c.args.heads.now c.args.self.now.states.items c.visit.new.self.states.items (c.loop-number.number + 1) b in
    let same : (c.visit.result || c.loop-number.changed) ≡ c.if-visit.changed =
    elim c.if-visit.branch [
      | then-visit w ↦ ap (λ b. b || c.loop-number.changed) w.if-visit.true ∙ sym w.changed-is
      | else-visit w ↦ ap (λ b. b || c.loop-number.changed) w.if-visit.false ∙ sym w.changed-is
    ] in
    record {
      sound = c.visit.ensures.sound;
      round =
          subst P same
          (round_more c.args.heads.now c.args.self.now.states.items c.loop-number.self.states.items c.visit.new.self.states.items c.loop-number.number c.loop-number.changed c.visit.result c.loop-number.invariant.round c.visit.ensures.visited);
    }

pub returns-clause-settled : goal.returns-clause-settled
returns-clause-settled c =
    let all : c.loop-number.number ≡ length c.args.heads.now = omega arith in
    round_settled c.args.heads.now c.args.self.now.states.items c.loop-number.self.states.items c.loop-number.changed
    (subst (λ (n : ℕ). IsRound c.args.heads.now c.args.self.now.states.items c.loop-number.self.states.items n c.loop-number.changed) all c.loop-number.invariant.round)
