-- The run of a linked image: what is loaded, and steps and services in turn until an end, or until as many instructions retired as it may take.
use Rattle.std.specs.Prelude.{◌≡◌, ℕ, suc, ◌+◌, ◌-◌, ◌*◌, ◌++◌, List, [], ◌∷◌, length, map, take, replicate, codes}
use Rattle.std.specs.Option.{option_map_or}
use Rattle.rv_isa.specs.Registers as register_of
use Rattle.rv_machine.specs.Machine.{State, registers_with, with_bytes}
use Rattle.rv_machine.specs.declared.answers.FaultKind.{FaultKind}
use Rattle.rv_machine.specs.declared.answers.FaultKind.TheVariants as fault_kind
use Rattle.rv_steps.specs.MachineRun.{Cause, ByService, ByFault, Spent, Outcome, MachineRun}
use Rattle.bcj_elf.specs.Spelling as elf
use Rattle.bcj_symbolic_boot.specs.BootUnit.{boot_classes}
use Rattle.bcj_symbolic_trees.specs.Names.{print_stream_name}
use Rattle.bcj_symbolic_trees.specs.Types.{class_type}
use Rattle.bcj_tables_rules.specs.declared.records.ClassRecord.{ClassRecord}
use Rattle.bcj_hier_rules.specs.Shapes.{Named}
use Rattle.bcj_layout_rules.specs.Places.{word_size, image_words, tables_at, index_of, record_of, static_at}
use Rattle.bcj_layout_rules.specs.Entries.{row_of}
use Rattle.bcj_layout_entries.specs.Start.{start_results}
use Rattle.bcj_linker_rules.specs.declared.state.ClassState.{ClassState}
use Rattle.bcj_linker_rules.specs.declared.state.ClassState.TheVariants as state
use Rattle.bcj_linker_rules.specs.States.{word_or_zero, entries_at, entry_words}
use Rattle.bcj_linker_rules.specs.Memory.{Image, Linked, classes_of, image}
use Rattle.bcj_run_rules.specs.World.{Program, Thrown, World, End}
use Rattle.bcj_run_rules.specs.World as service
use Rattle.bcj_run_rules.specs.Objects.{heap_start}
use Rattle.bcj_run_rules.specs.Services.{serve, taken_at_once}

-- ---- loading: the start's entries and those of the boot types are written, and the object that prints is made in the heap's first word

abbrev pub with_words : List ℕ → ℕ → List ℕ → List ℕ
with_words memory at words = with_bytes memory at (elf.words words)

abbrev pub boot_count : ℕ
boot_count = length boot_classes

module _ (p : Program) where
  abbrev pub with_start : List ℕ → List ℕ
  with_start memory = with_words memory (tables_at p.classes p.main) (map word_or_zero (start_results p.classes p.main))

  -- the entries of these classes, from the number k on
  abbrev pub with_entries : ℕ → List ClassRecord → List ℕ → List ℕ
  with_entries k [] memory = memory
  with_entries k (c ∷ rest) memory =
      with_entries (suc k) rest (with_words memory (entries_at p.classes p.main k) (entry_words p.classes p.main c))

  -- the static field `System.out`
  abbrev pub out_at : ℕ
  out_at =
      option_map_or (λ c. static_at p.classes p.main (index_of p.classes (codes "System")) c (codes "out") (codes "LPrintStream;"))
      (record_of p.classes (codes "System")) 0

  abbrev pub with_stream : List ℕ → List ℕ
  with_stream memory =
      with_words (with_words memory (heap_start p) (row_of p.classes p.main (class_type print_stream_name) ∷ [])) out_at (heap_start p ∷ [])

  abbrev pub loaded_memory : List ℕ → List ℕ
  loaded_memory memory = with_stream (with_entries 0 (take boot_count p.classes) (with_start memory))

  abbrev pub first_states : List ClassState
  first_states = take (length p.classes) (replicate boot_count state.Ready) ++ replicate (length p.classes - boot_count) state.Fresh

  abbrev pub first_world : ℕ → World
  first_world turns =
      record { states = first_states; allocated = 1; reserve = turns - taken_at_once turns; output = []; resolved = 0; thrown = [] }

-- ---- the run

abbrev pub program_of : List Linked → Named → ℕ → Program
program_of ls main heap = record { classes = classes_of ls; main = main; heap = heap }

abbrev pub first_state : Program → Image → ℕ → State
first_state p i turns = record {
  registers = registers_with (
      (register_of.sp, length i.memory) ∷ (register_of.s10, i.depth) ∷ (register_of.s11, taken_at_once turns) ∷ []
      );
  memory = loaded_memory p i.memory;
  read_only = i.read_only;
  pc = i.start;
  retired = 0;
}

-- how a run ends
pub data RunEnd : Type 0 where
  done : RunEnd
  uncaught : Named → RunEnd
  turns_spent : RunEnd
  depth_spent : RunEnd
  heap_spent : RunEnd
  fault : (pc : ℕ) → FaultKind → RunEnd
  runaway : RunEnd

pub record RunOutcome : Type 0 where
  pub output : List ℕ
  pub ended : RunEnd
  pub retired : ℕ
  pub resolved : ℕ
  pub thrown : List Thrown

abbrev pub end_of : State → Cause End → RunEnd
end_of s (ByService service.done) = done
end_of s (ByService (service.uncaught class)) = uncaught class
end_of s (ByService service.turns_spent) = turns_spent
end_of s (ByService service.depth_spent) = depth_spent
end_of s (ByService service.heap_spent) = heap_spent
end_of s (ByService service.lost) = fault (s.pc - word_size) fault_kind.BadCall
end_of s (ByFault kind) = fault s.pc kind
end_of s Spent = runaway

-- an ECALL that is a bad call doesn't retire
abbrev pub retired_of : State → Cause End → ℕ
retired_of s (ByService service.lost) = s.retired - 1
retired_of s c = s.retired

abbrev pub outcome_of : Outcome World End → RunOutcome
outcome_of o = record {
  output = o.world.output;
  ended = end_of o.state o.cause;
  retired = retired_of o.state o.cause;
  resolved = o.world.resolved;
  thrown = o.world.thrown;
}

-- the most instructions of a run
abbrev pub most_retired : Program → ℕ → ℕ
most_retired p turns = (turns + 1) * image_words p.classes p.main

-- the machine run of objects that are linked, boot first
pub record Runs (ls : List Linked) (main : Named) (turns depth heap : ℕ) (r : RunOutcome) : Type 0 where
  pub outcome : Outcome World End
  pub runs : MachineRun (serve (program_of ls main heap)) (most_retired (program_of ls main heap) turns)
      (first_state (program_of ls main heap) (image ls main heap depth) turns) (first_world (program_of ls main heap) turns) outcome
  pub is : r ≡ outcome_of outcome
