-- The states of classes, and what beginning the initialisation of one does (JLS 12.4.2): a fresh class is linked, which checks its pairs and then writes
-- what each entry of its tables says.
use Rattle.std.specs.Prelude.{ℕ, ◌+◌, ◌==◌, Bool, List, ◌++◌, length, map, Option, None, Some, Result, Ok, Err}
use Rattle.std.specs.List.{filter}
use Rattle.bcj_tables_rules.specs.declared.records.ClassRecord.{ClassRecord}
use Rattle.bcj_hier_rules.specs.declared.link_error.LinkError.{LinkError}
use Rattle.bcj_hier_rules.specs.declared.link_error.LinkError.TheVariants as error
use Rattle.bcj_hier_rules.specs.Shapes.{Named, record_shape}
use Rattle.bcj_hier_rules.specs.Linking.{link_error}
use Rattle.bcj_layout_rules.specs.Rows.{Classes, mixture_of}
use Rattle.bcj_layout_rules.specs.Places.{word_size, region_at}
use Rattle.bcj_layout_rules.specs.Entries.{ctable_word, otable_word, atable_word, itable_word}
use Rattle.bcj_linker_rules.specs.declared.state.ClassState.{ClassState}
use Rattle.bcj_linker_rules.specs.declared.state.ClassState.TheVariants as state

-- an unresolved entry is 0
abbrev pub word_or_zero : Result ℕ LinkError → ℕ
word_or_zero (Ok w) = w
word_or_zero (Err e) = 0

module _ (cs : Classes) (main : Named) where
  -- what linking a class writes into its tables, in their order
  abbrev pub entry_results : ClassRecord → List (Result ℕ LinkError)
  entry_results c =
      map (ctable_word cs main) c.ctable
      ++ (map (otable_word cs main c.head.name) c.otable
      ++ (map (atable_word cs main c.head.name) c.atable ++ map (itable_word cs main c.head.name) c.itable))

  abbrev pub entry_words : ClassRecord → List ℕ
  entry_words c = map word_or_zero (entry_results c)

  -- how many entries were resolved
  abbrev pub resolved_count : ClassRecord → ℕ
  resolved_count c = length (filter (λ w. elim (w == 0) [ Bool.true ↦ Bool.false | Bool.false ↦ Bool.true ]) (entry_words c))

  -- where they stand, behind the address of the class initialiser
  abbrev pub entries_at : ℕ → ℕ
  entries_at k = region_at cs main k + word_size

-- what beginning answers: run the class initialiser, pass over the class, or throw
pub data Begun : Type 0 where
  run : Begun
  pass : Begun
  throws : LinkError → Begun

abbrev pub begun_fresh : Option LinkError → Begun
begun_fresh None = run
begun_fresh (Some e) = throws e

abbrev pub begun : Classes → ClassRecord → ClassState → Begun
begun cs c state.Fresh = begun_fresh (link_error (mixture_of cs) (record_shape c))
begun cs c state.InProgress = pass
begun cs c state.Ready = pass
begun cs c state.Erroneous = throws error.NoClassDefFound

-- the state then; a class that doesn't link stays as it was
abbrev pub state_after : Begun → ClassState → ClassState
state_after run s = state.InProgress
state_after pass s = s
state_after (throws e) s = s
