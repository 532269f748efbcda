use Rattle.bcj_hier.specs.Loads.{IsSound, IsRound}
use Rattle.bcj_hier.proofs.loading.Loading.round.Given as goal

pub record IsTaken (A B : Type 0) : Type 0 where
  pub sound : A
  pub round : B

abbrev pub invariant-loop-number : goal.invariant-loop-number
invariant-loop-number l = IsTaken (IsSound l.heads l.self.states.items l.self.rows.items) (IsRound l.heads l.initial.self.states.items l.self.states.items l.number l.changed)
