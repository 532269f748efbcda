-- The statements of the contracts, from the lemmas.
use Rattle.rv_steps.specs.Laws.{MemoryLaws, SumLaws, CodeLaws}
use Rattle.rv_steps.specs.Refines.{StepUp, CallUp, RunUp}
use Rattle.rv_steps.specs.MachineRun.{OneOutcome}
use Rattle.rv_steps.proofs.Memory.{length_write, read_same, read_below, read_above, read_lt}
use Rattle.rv_steps.proofs.Arithmetic.{sum_on, sum_back, parts_join, upper_fits, lower_fits}
use Rattle.rv_steps.proofs.Lower.{words_in, code_in, has_placed}
use Rattle.rv_steps.proofs.Steps.{has_front, has_back}
use Rattle.rv_steps.proofs.Runs.{step_up, call_at, run_up}
use Rattle.rv_steps.proofs.Outcomes.{one_outcome}

pub memory_laws : MemoryLaws
memory_laws =
    record { length_write = length_write; read_same = read_same; read_below = read_below; read_above = read_above; read_lt = read_lt }

pub sum_laws : SumLaws
sum_laws =
    record { sum_on = sum_on; sum_back = sum_back; parts_join = parts_join; upper_fits = upper_fits; lower_fits = lower_fits }

module _ (W E : Type 0) where
  pub code_laws : CodeLaws W E
  code_laws =
      record { words_in = words_in; code_in = code_in; has_placed = has_placed; has_front = has_front; has_back = has_back }

  pub steps_up : StepUp W E
  steps_up im n c d code other goes = step_up im n c d code other goes

  pub calls_up : CallUp W E
  calls_up im n c code h = call_at im n c code h

  pub runs_up : RunUp W E
  runs_up im answer limit n c o code mirrors small m = run_up im answer mirrors limit n c o code small m

  pub machine_runs : OneOutcome W E
  machine_runs answer limit s w = one_outcome answer limit s w
