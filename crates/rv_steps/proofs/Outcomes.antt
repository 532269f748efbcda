-- Each state of the RV32IM machine has one step, and each run one outcome.
use Rattle.std.proofs.Common.{◌≡◌, ◌≢◌, ℕ, zero, suc, ◌+◌, ◌%◌, ◌<◌, ◌≤◌, ◌⊎◌, inl, inr, refl, sym, ap, subst, arith}
use Rattle.std.proofs.lemmas.Bool.{cases_lt}
use Rattle.rv_isa.specs.Words.{Spells}
use Rattle.rv_isa.specs.declared.instruction.Instr.{Instr}
use Rattle.rv_machine.specs.Machine.{State, IsFetched, word_at_pc, exec}
use Rattle.rv_machine.specs.declared.answers.FaultKind.{FaultKind}
use Rattle.rv_machine.specs.declared.answers.FaultKind.TheVariants.{Illegal, Unaligned, Outside, BadCall}
use Rattle.rv_machine.specs.declared.answers.Step.{Step}
use Rattle.rv_machine.specs.declared.answers.Step.TheVariants.{Went, Call, Fault}
use Rattle.rv_steps.specs.MachineRun.{IsStep, Answer, Resumed, Ended, Refused, ByService, ByFault, Spent, Outcome, AfterCall, AfterStep, MachineRun}
use Rattle.rv_isa.proofs.Spelled.{Told, equal_or, spelled_or, spelled_once}

-- the step of a state, and that it is the only one
abbrev HasStep : State → Type 0
HasStep s =
    (told : Step) × (behind : State) × IsStep s told behind × ((t : Step) (s1 : State) → IsStep s t s1 → (let p : Step × State = (t, s1) in p) ≡ (told, behind))

unaligned_step : (s : State) → s.pc % 4 ≢ 0 → HasStep s
unaligned_step s h =
    (Fault Unaligned, s, record { unaligned = λ _. refl; outside = λ z past. absurd (h z); illegal = λ f none. absurd (h f.aligned); does = λ i f w. absurd (h f.aligned) }, λ t s1 is. sym (is.unaligned h))

outside_step : (s : State) → s.pc % 4 ≡ 0 → s.read_only < s.pc + 4 → HasStep s
outside_step s z past = (
  Fault Outside,
  s,
  record { unaligned = λ h. absurd (h z); outside = λ _ _. refl; illegal = λ f none. absurd (not_inside f); does = λ i f w. absurd (not_inside f) },
  λ t s1 is. sym (is.outside z past),
)
  where
    not_inside : IsFetched s → ⊥
    not_inside f = let inside = f.inside in omega arith

illegal_step : (s : State) → IsFetched s → ((i : Instr) → Spells i (word_at_pc s) → ⊥) → HasStep s
illegal_step s f none = (
  Fault Illegal,
  s,
  record { unaligned = λ h. absurd (h f.aligned); outside = λ z past. let inside = f.inside in absurd (omega arith); illegal = λ _ _. refl; does = λ i _ w. absurd (none i w) },
  λ t s1 is. sym (is.illegal f none),
)

does_step : (s : State) → IsFetched s → (i : Instr) → Spells i (word_at_pc s) → HasStep s
does_step s f i w = (
  (exec i s).0,
  (exec i s).1,
  record {
    unaligned = λ h. absurd (h f.aligned);
    outside = λ z past. let inside = f.inside in absurd (omega arith);
    illegal = λ _ none. absurd (none i w);
    does = λ j _ v. ap (λ k. exec k s) (spelled_once j i (word_at_pc s) v w);
  },
  λ t s1 is. sym (is.does i f w),
)

has_step : (s : State) → HasStep s
has_step s = aligned (equal_or (s.pc % 4) 0)
  where
    fetched : IsFetched s → ((i : Instr) × Spells i (word_at_pc s)) ⊎ ((i : Instr) → Spells i (word_at_pc s) → ⊥) → HasStep s
    fetched f (inl it) = does_step s f it.0 it.1
    fetched f (inr none) = illegal_step s f none

    inside : s.pc % 4 ≡ 0 → (s.read_only < s.pc + 4) ⊎ (s.pc + 4 ≤ s.read_only) → HasStep s
    inside z (inl past) = outside_step s z past
    inside z (inr within) = fetched (record { aligned = z; inside = within }) (spelled_or (word_at_pc s))

    aligned : Told (s.pc % 4 ≡ 0) → HasStep s
    aligned (inl z) = inside z (cases_lt s.read_only (s.pc + 4))
    aligned (inr h) = unaligned_step s h

module _ {W E : Type 0} (answer : State → W → Answer W E) where
  abbrev One : (Outcome W E → Type 0) → Type 0
  One P = (o : Outcome W E) × P o × ((p : Outcome W E) → P p → p ≡ o)

  is_one : (o : Outcome W E) → One (λ p. p ≡ o)
  is_one o = (o, refl, λ p e. e)

  after_call : (limit : ℕ) → ((s : State) (w : W) → One (MachineRun answer limit s w))
      → (s s1 : State) (w : W) (a : Answer W E)
      → One (λ o. AfterCall (λ s2 w2. MachineRun answer limit s2 w2 o) s s1 w o a)
  after_call limit ih s s1 w (Resumed s2 w2) = ih s2 w2
  after_call limit ih s s1 w (Ended e w2) = is_one (record { cause = ByService e; state = s1; world = w2 })
  after_call limit ih s s1 w Refused = is_one (record { cause = ByFault BadCall; state = s; world = w })

  after_step : (limit : ℕ) → ((s : State) (w : W) → One (MachineRun answer limit s w))
      → (s s1 : State) (w : W) (t : Step)
      → One (λ o. AfterStep (λ s2 w2. MachineRun answer limit s2 w2 o) answer s s1 w o t)
  after_step limit ih s s1 w Went = ih s1 w
  after_step limit ih s s1 w Call = after_call limit ih s s1 w (answer s1 w)
  after_step limit ih s s1 w (Fault kind) = is_one (record { cause = ByFault kind; state = s1; world = w })

  -- one step, and one outcome behind it
  one_more : (limit : ℕ) → ((s : State) (w : W) → One (MachineRun answer limit s w)) → (s : State) (w : W)
      → One (MachineRun answer (suc limit) s w)
  unfolding MachineRun
  one_more limit ih s w =
      let (t, s1, is, only) = has_step s in
      let (o, behind, once) = after_step limit ih s s1 w t in (
        o,
        (t, s1, is, behind),
        λ p m.
            once p (subst (λ r. AfterStep (λ s2 w2. MachineRun answer limit s2 w2 p) answer s r.1 w p r.0) (only m.0 m.1 m.2) m.3),
      )

  pub one_outcome : (limit : ℕ) (s : State) (w : W) → One (MachineRun answer limit s w)
  unfolding MachineRun
  one_outcome zero s w = is_one (record { cause = Spent; state = s; world = w })
  one_outcome (suc limit) s w = one_more limit (one_outcome limit) s w

  -- How a run begins, for each answer of its first step. A loop over the machine's steps keeps that each outcome of the run
  -- that is left is one of the whole run, `(o : Outcome W E) → MachineRun answer left now world o → MachineRun answer limit
  -- first world0 o`, and each of its branches is one of these lemmas.
  pub machine_spent : (limit : ℕ) (s : State) (w : W) (o : Outcome W E) → limit ≡ 0
      → o ≡ record { cause = Spent; state = s; world = w } → MachineRun answer limit s w o
  unfolding MachineRun
  machine_spent limit s w o none over = subst (λ n. MachineRun answer n s w o) (sym none) over

  -- `rest` is what may retire behind that step
  module _ (limit rest : ℕ) (s : State) (w : W) (o : Outcome W E) (less : rest + 1 ≡ limit) where
    begins : (t : Step) (s1 : State) → IsStep s t s1 → AfterStep (λ s2 w2. MachineRun answer rest s2 w2 o) answer s s1 w o t
        → MachineRun answer limit s w o
    unfolding MachineRun
    begins t s1 is m =
        let e : suc rest ≡ limit = omega arith in
        subst (λ n. MachineRun answer n s w o) e (t, s1, is, m)

    called : {s1 : State} (a : Answer W E) → answer s1 w ≡ a → IsStep s Call s1
        → AfterCall (λ s2 w2. MachineRun answer rest s2 w2 o) s s1 w o a → MachineRun answer limit s w o
    called {s1} a e is m = begins Call s1 is (subst (λ x. AfterCall (λ s2 w2. MachineRun answer rest s2 w2 o) s s1 w o x) (sym e) m)

    pub machine_went : {s1 : State} → IsStep s Went s1 → MachineRun answer rest s1 w o → MachineRun answer limit s w o
    machine_went {s1} is m = begins Went s1 is m

    pub machine_fault : {s1 : State} {kind : FaultKind} → IsStep s (Fault kind) s1
        → o ≡ record { cause = ByFault kind; state = s1; world = w } → MachineRun answer limit s w o
    machine_fault {s1} {kind} is over = begins (Fault kind) s1 is over

    pub machine_resumed : {s1 s2 : State} {w2 : W} → IsStep s Call s1 → answer s1 w ≡ Resumed s2 w2
        → MachineRun answer rest s2 w2 o → MachineRun answer limit s w o
    machine_resumed {s2 = s2} {w2 = w2} is a m = called (Resumed s2 w2) a is m

    pub machine_ended : {s1 : State} {e : E} {w2 : W} → IsStep s Call s1 → answer s1 w ≡ Ended e w2
        → o ≡ record { cause = ByService e; state = s1; world = w2 } → MachineRun answer limit s w o
    machine_ended {e = e} {w2 = w2} is a over = called (Ended e w2) a is over

    pub machine_refused : {s1 : State} → IsStep s Call s1 → answer s1 w ≡ Refused
        → o ≡ record { cause = ByFault BadCall; state = s; world = w } → MachineRun answer limit s w o
    machine_refused is a over = called Refused a is over
