use Rattle.std.proofs.Common.{◌≡◌, ℕ, ◌-◌, List, length, take, drop, ap, ◌∙◌, sym}
use Rattle.std.proofs.Math.Seq.{take-length}
use Rattle.std.proofs.lemmas.List.{length-drop}
use Rattle.bcj_edge.proofs.Written.{written_front, written_more, written_same}
use Rattle.bcj_edge.proofs.transfer.write_whole.Goals as goal
use Rattle.bcj_edge.proofs.transfer.write_whole.Goals.{in-Ok, in-Err}

-- a slice from n on, as code takes it
rest_whole : (n : ℕ) (xs : List ℕ) → take (length xs - n) (drop n xs) ≡ drop n xs
rest_whole n xs = ap (λ k. take k (drop n xs)) (sym (length-drop n xs)) ∙ take-length (drop n xs)

pub returns-in-Ok-eq0-clause-front : goal.returns-in-Ok-eq0-clause-front
returns-in-Ok-eq0-clause-front g c =
    let wrote = rw c.in-Ok-eq0.is at c.write.ensures.bytes in
    written_front _ _ _ _ (written_more _ _ _ _ _ _ c.loop-turn.invariant wrote)

pub returns-in-Err-2-clause-front : goal.returns-in-Err-2-clause-front
returns-in-Err-2-clause-front g c =
    written_front _ _ _ _ (written_same _ _ _ _ _ c.loop-turn.invariant c.in-Err-2.ensures.bytes)

pub loop-turn-preserved : goal.loop-turn-preserved
loop-turn-preserved g c =
    elim c.match-write.branch [
      | in-Ok w ↦
          let now : c.match-write.rest.now ≡ drop w.in-Ok.count c.loop-turn.rest.now = ap (λ r. r.now) w.rest-is ∙ rest_whole w.in-Ok.count c.loop-turn.rest.now in
          rw now (written_more _ _ _ _ _ _ c.loop-turn.invariant w.in-Ok.ensures.bytes)
      | in-Err w ↦
          let now : c.match-write.rest.now ≡ c.loop-turn.rest.now = ap (λ r. r.now) w.rest-is in
          rw now (written_same _ _ _ _ _ c.loop-turn.invariant w.in-Err.ensures.bytes)
    ]

pub returns-clause-front : goal.returns-clause-front
returns-clause-front g c = written_front _ _ _ _ c.loop-turn.invariant
