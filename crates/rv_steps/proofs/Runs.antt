-- Steps and whole runs of the machine with named registers are those of the RV32IM machine.
use Rattle.std.proofs.Common.{◌≡◌, ◌≢◌, ℕ, zero, suc, ◌+◌, ◌≤◌, List, Bool, true, false, if◌then◌else◌, inl, inr, ◌⊎◌, Option, Some, None, refl, sym, ap, ◌∙◌, subst, arith}
use Rattle.rv_isa.specs.Words.{Spells}
use Rattle.rv_machine.specs.Machine.{State, max_retired, exec}
use Rattle.rv_machine.specs.declared.answers.Step.{Step}
use Rattle.rv_machine.specs.declared.answers.Step.TheVariants.{Went, Call}
use Rattle.rv_steps.specs.Memory.{read}
use Rattle.rv_steps.specs.Machine.{Op, Lw, Sw, Beq, Bne, Bltu, Bgeu, Jalr, Ecall, Config, Served, Resumes, Ends, Fails, Image, Next, Go, Halt, Fault, next, act, after, at, step, Over, continue, run}
use Rattle.rv_steps.specs.Lower.{lower, Stands, CodeIn}
use Rattle.rv_steps.specs.MachineRun.{IsStep, Answer, ByService, Spent, Outcome, AfterStep, AfterCall, MachineRun}
use Rattle.rv_steps.specs.Refines.{up, bump, Stepped, Called, Mirrors, Agrees}
use Rattle.rv_steps.proofs.Steps.{step_is}
use Rattle.rv_steps.proofs.Refine.{exec_up, call_up}
use Rattle.rv_isa.proofs.Spelled.{spelled_once}

module _ {W E : Type 0} (im : Image W E) where
  -- code that stands stands also where the words below the read-only end are the same
  code_kept : (m m1 : List ℕ) → CodeIn im m → ((p : ℕ) → p + 4 ≤ im.low → read m1 p ≡ read m p) → CodeIn im m1
  code_kept m m1 code same = record {
    stands =
        λ p op h. let s = code.stands p op h in record { aligned = s.aligned; inside = s.inside; spells = subst (λ w. Spells (lower p op) w) (sym (same p s.inside)) s.spells; reaches = s.reaches };
    low_fits = code.low_fits;
  }

  -- what the RV32IM machine's step is at an instruction that stands
  lower_step : (n : ℕ) (c : Config W) (op : Op) (t : Step) (s : State) → Stands c.mem im.low c.pc op
      → IsStep (up im n c) t s → exec (lower c.pc op) (up im n c) ≡ (t, s)
  unfolding read
  lower_step n c op t s stands is =
      is.does (lower c.pc op) (record { aligned = stands.aligned; inside = stands.inside }) stands.spells

  -- a step that does what the instruction that stands does
  is_step : (n : ℕ) (c : Config W) (op : Op) (t : Step) (s : State) → Stands c.mem im.low c.pc op
      → exec (lower c.pc op) (up im n c) ≡ (t, s) → IsStep (up im n c) t s
  unfolding read
  is_step n c op t s stands e = record {
    unaligned = λ h. absurd (h stands.aligned);
    outside = λ h past. let inside = stands.inside in absurd (omega arith);
    illegal = λ h none. absurd (none (lower c.pc op) stands.spells);
    does = λ i h spells. subst (λ j. exec j (up im n c) ≡ (t, s)) (spelled_once (lower c.pc op) i _ stands.spells spells) e;
  }

  went : (t u : Step) (s s1 : State) → (let p : Step × State = (t, s) in p) ≡ (u, s1) → (t ≡ u) × (s ≡ s1)
  went t u s s1 e = (ap (λ p. p.0) e, ap (λ p. p.1) e)

  step_at : (n : ℕ) (c d : Config W) (op : Op) → im.fetch c.pc ≡ Some op → op ≢ Ecall → CodeIn im c.mem
      → step im c ≡ Go d → Stepped im n c d
  step_at n c d op h other code goes =
      let stands = code.stands c.pc op h in
      let low = code.low_fits in
      let inside = stands.inside in
      let f = exec_up im n c (omega arith) op d other stands.reaches (sym (step_is im c h) ∙ goes) in
      record {
        is = is_step n c op Went (up im (bump n) d) stands f.execs;
        only = λ t s is. went t Went s (up im (bump n) d) (sym (lower_step n c op t s stands is) ∙ f.execs);
        code = code_kept c.mem d.mem code f.keeps;
        world = f.world;
      }

  pub call_at : (n : ℕ) (c : Config W) → CodeIn im c.mem → im.fetch c.pc ≡ Some Ecall → Called im n c
  call_at n c code h =
      let stands = code.stands c.pc Ecall h in
      let low = code.low_fits in
      let inside = stands.inside in
      let called = call_up im n c (omega arith) in
      record {
        is = is_step n c Ecall Call (up im (bump n) (next c)) stands called;
        only = λ t s is. went t Call s (up im (bump n) (next c)) (sym (lower_step n c Ecall t s stands is) ∙ called);
      }

  which : (op : Op) → (op ≡ Ecall) ⊎ (op ≢ Ecall)
  which Ecall = inl refl
  which _ = inr (λ e. cc)

  step_from : (n : ℕ) (c d : Config W) (o : Option Op) → im.fetch c.pc ≡ o → CodeIn im c.mem
      → im.fetch c.pc ≢ Some Ecall → step im c ≡ Go d → Stepped im n c d
  unfolding step
  step_from n c d None h code other goes =
      let none : at im None c ≡ Go d = ap (λ x. at im x c) (sym h) ∙ goes in
      absurd cc
  step_from n c d (Some op) h code other goes = step_at n c d op h (λ e. other (h ∙ ap Some e)) code goes

  pub step_up : (n : ℕ) (c d : Config W) → CodeIn im c.mem → im.fetch c.pc ≢ Some Ecall → step im c ≡ Go d → Stepped im n c d
  step_up n c d code other goes = step_from n c d (im.fetch c.pc) refl code other goes

  no_halt_if : (e : E) (w : W) (b : Bool) (x y : Next W E) → (x ≡ Halt e w → ⊥) → (y ≡ Halt e w → ⊥)
      → (if b then x else y) ≡ Halt e w → ⊥
  no_halt_if e w true x y nx ny h = nx h
  no_halt_if e w false x y nx ny h = ny h

  no_go : (e : E) (w : W) (d : Config W) → Go d ≡ Halt e w → ⊥
  no_go e w d h = cc

  no_fault : (e : E) (w : W) → (let f : Next W E = Fault in f) ≡ Halt e w → ⊥
  no_fault e w h = cc

  no_halt : (e : E) (w : W) (c : Config W) (op : Op) → op ≢ Ecall → act im op c ≡ Halt e w → ⊥
  no_halt e w c (Lw rd base k) other h = no_halt_if e w _ _ _ (no_go e w _) (no_fault e w) h
  no_halt e w c (Sw r base k) other h = no_halt_if e w _ _ _ (no_go e w _) (no_fault e w) h
  no_halt e w c (Beq r s t) other h = no_halt_if e w _ _ _ (no_go e w _) (no_go e w _) h
  no_halt e w c (Bne r s t) other h = no_halt_if e w _ _ _ (no_go e w _) (no_go e w _) h
  no_halt e w c (Bltu r s t) other h = no_halt_if e w _ _ _ (no_go e w _) (no_go e w _) h
  no_halt e w c (Bgeu r s t) other h = no_halt_if e w _ _ _ (no_go e w _) (no_go e w _) h
  no_halt e w c (Jalr rd rs k) other h = no_halt_if e w _ _ _ (no_go e w _) (no_fault e w) h
  no_halt e w c Ecall other h = other refl
  no_halt e w c _ other h = no_go e w _ h

module _ {W E : Type 0} (im : Image W E) (answer : State → W → Answer W E) (mirrors : Mirrors im answer) where
  -- what is asked of a run of the RV32IM machine that may take so many instructions more
  abbrev Up : (limit n : ℕ) → Outcome W E → Config W → Type 0
  Up limit n o c =
      CodeIn im c.mem → n + limit ≤ max_retired → MachineRun answer limit (up im n c) c.world o → Agrees im (n + limit) (run im limit n c) o

  -- what holds behind a step, for an outcome and what is said of the state that goes on
  module _ (limit n : ℕ) (o : Outcome W E) (ih : (d : Config W) → Up limit (n + 1) o d) (c : Config W) (small : n + suc limit ≤ max_retired) where
    abbrev More : State → W → Type 0
    More s w = MachineRun answer limit s w o

    bumped : bump n ≡ n + 1
    bumped = omega arith

    total : n + 1 + limit ≡ n + suc limit
    total = omega arith

    -- the run goes on from d on both machines
    goes : (d : Config W) → step im c ≡ Go d → CodeIn im d.mem → More (up im (bump n) d) d.world
        → Agrees im (n + suc limit) (run im (suc limit) n c) o
    unfolding run
    goes d e code m =
        let m1 : More (up im (n + 1) d) d.world = subst (λ k. More (up im k d) d.world) bumped m in
        let r : Agrees im (n + 1 + limit) (run im limit (n + 1) d) o = ih d code (omega arith) m1 in
        let r1 : Agrees im (n + suc limit) (run im limit (n + 1) d) o = subst (λ k. Agrees im k (run im limit (n + 1) d) o) total r in
        subst (λ x. Agrees im (n + suc limit) (continue x (n + 1) (run im limit (n + 1))) o) (sym e) r1

    -- the run is over at a fault of the upper machine, of which nothing is said
    faults : step im c ≡ Fault → Agrees im (n + suc limit) (run im (suc limit) n c) o
    unfolding run
    faults e = subst (λ x. Agrees im (n + suc limit) (continue x (n + 1) (run im limit (n + 1))) o) (sym e) tt

    halts : (e : E) (w : W) → step im c ≡ Halt e w
        → o ≡ record { cause = ByService e; state = up im (bump n) (next c); world = w }
        → Agrees im (n + suc limit) (run im (suc limit) n c) o
    unfolding run
    halts e w h is =
        let agrees : Agrees im (n + suc limit) (Over e w (n + 1)) o = (ap (λ x. x.cause) is, ap (λ x. x.world) is, ap (λ x. x.state.retired) is ∙ bumped) in
        subst (λ x. Agrees im (n + suc limit) (continue x (n + 1) (run im limit (n + 1))) o) (sym h) agrees

    serves : (v : Served W E) → im.serve (next c) ≡ v → step im c ≡ after v → CodeIn im c.mem
        → AfterCall More (up im n c) (up im (bump n) (next c)) c.world o (answer (up im (bump n) (next c)) c.world)
        → Agrees im (n + suc limit) (run im (suc limit) n c) o
    serves (Resumes d) e h code m =
        let (a, code1) = mirrors.resumes (bump n) (next c) d code e in
        goes d h code1 (subst (λ x. AfterCall More (up im n c) (up im (bump n) (next c)) c.world o x) a m)
    serves (Ends e w) s h code m =
        halts e w h (subst (λ x. AfterCall More (up im n c) (up im (bump n) (next c)) c.world o x) (mirrors.ends (bump n) (next c) e w code s) m)
    serves Fails e h code m = faults h

    calls : (t : Step) (s : State) → CodeIn im c.mem → im.fetch c.pc ≡ Some Ecall → IsStep (up im n c) t s
        → AfterStep More answer (up im n c) s c.world o t → Agrees im (n + suc limit) (run im (suc limit) n c) o
    calls t s code h is m =
        let (told, state) = (call_at im n c code h).only t s is in
        let m1 = subst (λ x. AfterStep More answer (up im n c) s c.world o x) told m in
        let m2 = subst (λ x. AfterStep More answer (up im n c) x c.world o Call) state m1 in
        serves (im.serve (next c)) refl (step_is im c h) code m2

    plain : (t : Step) (s : State) (r : Next W E) → step im c ≡ r → (op : Op) → im.fetch c.pc ≡ Some op → op ≢ Ecall
        → CodeIn im c.mem → IsStep (up im n c) t s → AfterStep More answer (up im n c) s c.world o t
        → Agrees im (n + suc limit) (run im (suc limit) n c) o
    plain t s (Go d) e op h other code is m =
        let stepped = step_at im n c d op h other code e in
        let (told, state) = stepped.only t s is in
        let m1 = subst (λ x. AfterStep More answer (up im n c) s c.world o x) told m in
        let m2 = subst (λ x. More x c.world) state m1 in
        goes d e stepped.code (subst (λ w. More (up im (bump n) d) w) (sym stepped.world) m2)
    plain t s (Halt x w) e op h other code is m = absurd (no_halt im x w c op other (sym (step_is im c h) ∙ e))
    plain t s Fault e op h other code is m = faults e

    fetched : (t : Step) (s : State) (f : Option Op) → im.fetch c.pc ≡ f → CodeIn im c.mem → IsStep (up im n c) t s
        → AfterStep More answer (up im n c) s c.world o t → Agrees im (n + suc limit) (run im (suc limit) n c) o
    unfolding step
    fetched t s None h code is m = faults (ap (λ x. at im x c) h)
    fetched t s (Some op) h code is m = elim (which im op) [
      | inl e ↦ calls t s code (h ∙ ap Some e) is m
      | inr other ↦ plain t s (step im c) refl op h other code is m
    ]

  pub run_up : (limit n : ℕ) (c : Config W) (o : Outcome W E) → Up limit n o c
  unfolding MachineRun run
  run_up zero n c o code small m =
      let e : n ≡ n + 0 = omega arith in
      subst (λ k. o ≡ record { cause = Spent; state = up im k c; world = c.world }) e m
  run_up (suc limit) n c o code small m =
      fetched limit n o (λ d. run_up limit (n + 1) d o) c small m.0 m.1 (im.fetch c.pc) refl code m.2 m.3
