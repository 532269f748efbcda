-- The entries of an image's tables by their addresses, with what each names and what linking finds.
use Rattle.std.specs.Prelude.{ℕ, suc, ◌+◌, ◌==◌, List, [], ◌∷◌, ◌++◌, map, codes, Option, None, Some, Result, Ok, Err, if◌then◌else◌}
use Rattle.std.specs.List.{find}
use Rattle.bcj_tables_rules.specs.declared.records.CEntry.{CEntry}
use Rattle.bcj_tables_rules.specs.declared.records.ClassRecord.{ClassRecord}
use Rattle.bcj_hier_rules.specs.declared.link_error.LinkError.{LinkError}
use Rattle.bcj_hier_rules.specs.Shapes.{Named}
use Rattle.bcj_layout_rules.specs.Rows.{Classes}
use Rattle.bcj_layout_rules.specs.Places.{word_size, main_descriptor, tables_at, region_at}
use Rattle.bcj_linker_rules.specs.States.{entry_results, entries_at}
use Rattle.bcj_layout_entries.specs.Classes.{entry_classes}
use Rattle.bcj_layout_entries.specs.Start.{start_results, start_classes, main_result}

-- ---- references as text

abbrev pub type_reference : CEntry → List ℕ
type_reference e = (if e.is_new then codes "new " else codes "type ") ++ e.ty

abbrev pub member_reference : Named → Named → List ℕ → List ℕ
member_reference class name desc = class ++ (codes "." ++ (name ++ (codes ":" ++ desc)))

-- in the order of a class's tables
abbrev pub entry_references : ClassRecord → List (List ℕ)
entry_references c =
    map type_reference c.ctable
    ++ (map (λ e. member_reference e.class e.name e.desc) c.otable
    ++ (map (λ e. member_reference e.class e.name e.desc) c.atable ++ map (λ e. member_reference e.class e.name e.desc) c.itable))

-- the main that is taken, or asked for in vain
abbrev pub main_form : Classes → Named → Result ℕ LinkError → List ℕ
main_form cs main (Ok at) = main_descriptor cs main
main_form cs main (Err e) = codes "()V"

abbrev pub start_references : Classes → Named → List (List ℕ)
start_references cs main =
    (codes "type L" ++ (main ++ codes ";"))
    ∷ codes "type [LString;"
    ∷ member_reference main (codes "main") (main_form cs main (main_result cs main))
    ∷ []

-- ---- entries

-- the region that an entry is in: the start's, or that of the class with a number
pub data Region : Type 0 where
  of_start : Region
  of_class : ℕ → Region

pub record TableEntry : Type 0 where
  pub at : ℕ
  pub region : Region
  pub found : Result ℕ LinkError
  -- the class to be initialised
  pub class : Option Named
  pub reference : List ℕ

-- entries one behind the other
abbrev pub entries_from : Region → ℕ → List (Result ℕ LinkError) → List (Option Named) → List (List ℕ) → List TableEntry
entries_from region at (r ∷ rs) (c ∷ cs) (t ∷ ts) =
    record { at = at; region = region; found = r; class = c; reference = t } ∷ entries_from region (at + word_size) rs cs ts
entries_from region at _ _ _ = []

module _ (cs : Classes) (main : Named) where
  abbrev pub start_region : List TableEntry
  start_region = entries_from of_start (tables_at cs main) (start_results cs main) (start_classes cs main) (start_references cs main)

  abbrev pub class_region : ℕ → ClassRecord → List TableEntry
  class_region k c = entries_from (of_class k) (entries_at cs main k) (entry_results cs main c) (entry_classes cs c) (entry_references c)

  abbrev pub class_regions : ℕ → List ClassRecord → List TableEntry
  class_regions k [] = []
  class_regions k (c ∷ rest) = class_region k c ++ class_regions (suc k) rest

  -- the entry at an address
  abbrev pub entry_with : ℕ → Option TableEntry
  entry_with at = find (λ e. e.at == at) (start_region ++ class_regions 0 cs)

  -- the class whose region begins at an address, by its number, among those from k on
  abbrev pub region_from : ℕ → List ClassRecord → ℕ → Option ℕ
  region_from k [] at = None
  region_from k (c ∷ rest) at = if region_at cs main k == at then Some k else region_from (suc k) rest at

  abbrev pub region_with : ℕ → Option ℕ
  region_with = region_from 0 cs
