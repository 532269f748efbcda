-- What a reader expects of these definitions.
use Rattle.std.specs.Prelude.{◌≡◌, ℕ, List}
use Rattle.bcj_hier_rules.specs.Shapes.{Named}
use Rattle.bcj_linker_rules.specs.Memory.{Linked}
use Rattle.bcj_run_rules.specs.Run.{Runs, RunOutcome}

abbrev pub RunIsOne : Type 0
RunIsOne = (ls : List Linked) (main : Named) (turns depth heap : ℕ)
    → (r : RunOutcome) × Runs ls main turns depth heap r × ((q : RunOutcome) → Runs ls main turns depth heap q → q ≡ r)
