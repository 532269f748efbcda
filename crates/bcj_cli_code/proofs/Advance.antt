-- One instruction of a run, from what a step and a service answer.
use Rattle.std.proofs.Common.{◌≡◌, ℕ, suc, ◌+◌, ◌-◌, ◌*◌, ◌<◌, ◌≤◌, ◌^◌, List, [], length, refl, sym, ap, ◌∙◌, subst, arith, Some, None}
use Rattle.rv_machine.specs.Machine.{State}
use Rattle.rv_machine.specs.declared.answers.FaultKind.{FaultKind}
use Rattle.rv_machine.specs.declared.answers.FaultKind.TheVariants.{BadCall}
use Rattle.rv_machine.specs.declared.answers.Step.TheVariants as step
use Rattle.rv_steps.specs.MachineRun.{IsStep, Answer, Outcome, AfterCall, MachineRun}
use Rattle.rv_steps.specs.MachineRun as machine
use Rattle.bcj_cli_language.specs.Tree.{Acts}
use Rattle.bcj_cli_language.specs.Bounds.{IsBounded}
use Rattle.bcj_cli_language.specs.Meaning.{meaning, printed}
use Rattle.bcj_cli_code.specs.declared.ending.Ending.{Ending}
use Rattle.bcj_cli_code.specs.declared.ending.Cause.{Cause}
use Rattle.bcj_cli_code.specs.declared.ending.Cause.TheVariants.{Ended, Faulted, OutOfInstructions}
use Rattle.bcj_cli_code.specs.declared.ending.Ran.{Ran}
use Rattle.bcj_cli_code.specs.function.Code.{program_words}
use Rattle.bcj_cli_code.specs.Sizes.{max_words}
use Rattle.bcj_cli_code.specs.Correct.{answer, memory_of, limit, start_state, Runs, ending}
use Rattle.bcj_cli_code.specs.function.Execution.{IsAdvanced, IsRun, cause_of}
use Rattle.bcj_cli_code.proofs.Theorem.{memory_long, correct}
use Rattle.std.proofs.Math.Nat.{mul-le-mul_left}

module _ (s s1 : State) (out out1 : List ℕ) where
  pub advance_went : IsStep s step.Went s1 → IsAdvanced s out None s1 out
  unfolding MachineRun
  advance_went is limit o m = (step.Went, s1, is, m)

  pub advance_resumed : IsStep s step.Call s1 → answer s1 out ≡ machine.Resumed s1 out1 → IsAdvanced s out None s1 out1
  unfolding MachineRun
  advance_resumed is e limit o m = (step.Call, s1, is, subst (λ a. AfterCall (λ t w. MachineRun answer limit t w o) s s1 out o a) (sym e) m)

  pub advance_ended : (e : Ending) → IsStep s step.Call s1 → answer s1 out ≡ machine.Ended e out1 → IsAdvanced s out (Some (Ended e)) s1 out1
  unfolding MachineRun
  advance_ended e is same limit =
      let o : Outcome (List ℕ) Ending = record { cause = machine.ByService e; state = s1; world = out1 } in
      record { outcome = o; runs = (step.Call, s1, is, subst (λ a. AfterCall (λ t w. MachineRun answer limit t w o) s s1 out o a) (sym same) refl); cause_is = refl; output = refl }

  pub advance_refused : IsStep s step.Call s1 → answer s1 out ≡ machine.Refused → out1 ≡ out → IsAdvanced s out (Some (Faulted BadCall)) s1 out1
  unfolding MachineRun
  advance_refused is same still limit =
      let o : Outcome (List ℕ) Ending = record { cause = machine.ByFault BadCall; state = s; world = out } in
      record { outcome = o; runs = (step.Call, s1, is, subst (λ a. AfterCall (λ t w. MachineRun answer limit t w o) s s1 out o a) (sym same) refl); cause_is = refl; output = sym still }

  pub advance_faulted : (k : FaultKind) → IsStep s (step.Fault k) s1 → IsAdvanced s out (Some (Faulted k)) s1 out
  unfolding MachineRun
  advance_faulted k is limit =
      let o : Outcome (List ℕ) Ending = record { cause = machine.ByFault k; state = s1; world = out } in
      record { outcome = o; runs = (step.Fault k, s1, is, refl); cause_is = refl; output = refl }

-- what is left of a run from the start
abbrev pub Left : (most : ℕ) (s0 : State) (left : ℕ) (s : State) (out : List ℕ) → Type 0
Left most s0 left s out = (o : Outcome (List ℕ) Ending) → MachineRun answer left s out o → MachineRun answer most s0 [] o

pub left_start : (most : ℕ) (s0 : State) (n : ℕ) → n ≡ most → Left most s0 n s0 []
left_start most s0 n e o m = subst (λ k. MachineRun answer k s0 [] o) e m

pub left_step : (most : ℕ) (s0 : State) (i : ℕ) (s s1 : State) (out out1 : List ℕ) → i < most → IsAdvanced s out None s1 out1 → Left most s0 (most - i) s out → Left most s0 (most - (i + 1)) s1 out1
left_step most s0 i s s1 out out1 lt one h o m = h o (subst (λ k. MachineRun answer k s out o) (let e : suc (most - (i + 1)) ≡ most - i = omega arith in e) (one (most - (i + 1)) o m))

pub run_over : (words : List ℕ) (turns : ℕ) (i most : ℕ) (s s1 : State) (out : List ℕ) (r : Ran) → most ≡ limit words turns → i < most → IsAdvanced s out (Some r.cause) s1 r.out.items → Left most (start_state words turns) (most - i) s out → IsRun words turns r
run_over words turns i most s s1 out r em lt one h =
    let c = one (most - (i + 1)) in
    let m = h c.outcome (subst (λ k. MachineRun answer k s out c.outcome) (let e : suc (most - (i + 1)) ≡ most - i = omega arith in e) c.runs) in
    record { outcome = c.outcome; runs = subst (λ k. MachineRun answer k (start_state words turns) [] c.outcome) em m; cause_is = c.cause_is; output = c.output }

pub run_spent : (words : List ℕ) (turns : ℕ) (i most : ℕ) (s : State) (r : Ran) → most ≡ limit words turns → most ≤ i → r.cause ≡ OutOfInstructions → Left most (start_state words turns) (most - i) s r.out.items → IsRun words turns r
unfolding MachineRun
run_spent words turns i most s r em le er h =
    let o : Outcome (List ℕ) Ending = record { cause = machine.Spent; state = s; world = r.out.items } in
    let none : MachineRun answer 0 s r.out.items o = refl in
    let m = h o (subst (λ k. MachineRun answer k s r.out.items o) (let e : 0 ≡ most - i = omega arith in e) none) in
    record { outcome = o; runs = subst (λ k. MachineRun answer k (start_state words turns) [] o) em m; cause_is = ap cause_of (sym er); output = refl }

ended_only : (c : Cause) (e : Ending) → cause_of c ≡ machine.ByService e → c ≡ Ended e
ended_only (Ended x) e h = cc
ended_only (Faulted k) e h = absurd cc
ended_only OutOfInstructions e h = absurd cc

-- the run of a program's words is its meaning
pub run_meant : (words : List ℕ) (turns : ℕ) (r : Ran) → IsRun words turns r → (p : Acts) → IsBounded p → length (program_words p) ≤ max_words → turns < 2 ^ 31 → words ≡ program_words p → (r.cause ≡ Ended (ending (meaning p turns))) × (r.out.items ≡ printed (meaning p turns))
run_meant words turns r is p bounded short few same =
    let m = (correct p turns bounded short few).each is.outcome (subst (λ ws. Runs ws turns is.outcome) same is.runs) in
    (ended_only r.cause (ending (meaning p turns)) (sym is.cause_is ∙ m.cause), sym is.output ∙ m.output)

pub load_size : (words memory bytes : List ℕ) → bytes ≡ memory → memory ≡ memory_of words → length bytes ≡ 4 * length words + 2032
load_size words memory bytes e m = ap length (e ∙ m) ∙ memory_long words

pub most_fits : (turns n : ℕ) → turns < 2 ^ 32 → 4 * n + 2032 < 2 ^ 32 → (turns + 1) * n < 2 ^ 64
most_fits turns n few small = let le : n ≤ 2 ^ 30 = omega arith in omega (arith, mul-le-mul_left (turns + 1) le)

pub left_begin : (most : ℕ) (s0 s : State) (out : List ℕ) → s ≡ s0 → out ≡ [] → Left most s0 (most - 0) s out
left_begin most s0 s out es eo o m = subst (λ k. MachineRun answer k s0 [] o) (let e : most - 0 ≡ most = omega arith in e) (subst (λ t. MachineRun answer (most - 0) t [] o) es (subst (λ x. MachineRun answer (most - 0) s x o) eo m))
