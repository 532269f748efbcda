use Rattle.std.proofs.Common.{◌∙◌, ap}
use Rattle.rv_machine.specs.Machine.{State}
use Rattle.rv_steps.proofs.Outcomes.{one_outcome}
use Rattle.bcj_linker_rules.specs.Memory.{image}
use Rattle.bcj_run_rules.specs.World.{Program}
use Rattle.bcj_run_rules.specs.Services.{serve}
use Rattle.bcj_run_rules.specs.Run.{outcome_of, program_of, most_retired, first_state, first_world}
use Rattle.bcj_run_rules.proofs.run_is_one.Goals as goal

pub returns : goal.returns
returns c = λ ls main turns depth heap.
    let p : Program = program_of ls main heap in
    let start : State = first_state p (image ls main heap depth) turns in
    let (o, runs, only) = one_outcome (serve p) (most_retired p turns) start (first_world p turns) in
    (outcome_of o, record { outcome = o; runs = runs; is = λ i. outcome_of o }, λ q other. other.is ∙ ap outcome_of (only other.outcome other.runs))
