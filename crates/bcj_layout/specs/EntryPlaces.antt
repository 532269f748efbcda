-- The entries of all tables: where each stands, what linking writes there, and the class that it stands for. The start's region has a class table of
-- two entries, the main class and the type of the arguments, and an address table of one, the `main` that is taken.
use Rattle.std.specs.Prelude.{◌≡◌, ◌<◌, ◌+◌, ◌*◌, ℕ, List, [], length, map, slice_get, Option, None, Some, Result}
use Rattle.std.specs.List.{All}
use Rattle.std.specs.Option.{option_map_or}
use Rattle.bcj_tables_rules.specs.declared.records.ClassRecord.{ClassRecord}
use Rattle.bcj_hier_rules.specs.declared.class_id.ClassId.{ClassId}
use Rattle.bcj_hier_rules.specs.declared.link_error.LinkError.{LinkError}
use Rattle.bcj_hier_rules.specs.Shapes.{Named}
use Rattle.bcj_layout_rules.specs.declared.table.Table.{Table}
use Rattle.bcj_layout_rules.specs.declared.table.Table.TheVariants as table
use Rattle.bcj_layout_rules.specs.Rows.{Classes}
use Rattle.bcj_layout_rules.specs.Places.{word_size, tables_at, region_at}
use Rattle.bcj_linker_rules.specs.States.{entry_results, entries_at}
use Rattle.bcj_layout_entries.specs.declared.entries.Entry.{Entry}
use Rattle.bcj_layout_entries.specs.Classes.{entry_classes}
use Rattle.bcj_layout_entries.specs.Entries.{named_class, IsAmong}
use Rattle.bcj_layout_entries.specs.Start.{start_results, start_classes}
use Rattle.bcj_layout.specs.declared.entry_id.EntryId.{EntryId}

-- ---- tables

abbrev pub table_length : ClassRecord → Table → ℕ
table_length r table.Ctable = length r.ctable
table_length r table.Otable = length r.otable
table_length r table.Atable = length r.atable
table_length r table.Itable = length r.itable

-- the entries of all four
abbrev pub entry_count : ClassRecord → ℕ
entry_count r = length r.ctable + length r.otable + length r.atable + length r.itable

-- those of the tables before a table
abbrev pub entries_before : ClassRecord → Table → ℕ
entries_before r table.Ctable = 0
entries_before r table.Otable = length r.ctable
entries_before r table.Atable = length r.ctable + length r.otable
entries_before r table.Itable = length r.ctable + length r.otable + length r.atable

abbrev pub start_length : Table → ℕ
start_length table.Ctable = 2
start_length table.Otable = 0
start_length table.Atable = 1
start_length table.Itable = 0

abbrev pub start_before : Table → ℕ
start_before table.Ctable = 0
start_before table.Otable = 2
start_before table.Atable = 2
start_before table.Itable = 3

-- a place in the tables of a class, by its number among the entries of all
pub record IsPlaceIn (r : ClassRecord) (number : ℕ) (t : Table) (index : ℕ) : Type 0 where
  pub within : index < table_length r t
  pub number_is : entries_before r t + index ≡ number

-- ---- entries

module _ (cs : Classes) where
  -- the entries of a table of a class, or of the start's region
  abbrev pub length_in : Option ClassId → Table → ℕ
  length_in None t = start_length t
  length_in (Some c) t = option_map_or (λ r. table_length r t) (slice_get cs c.0) 0

  abbrev pub before_in : Option ClassId → Table → ℕ
  before_in None t = start_before t
  before_in (Some c) t = option_map_or (λ r. entries_before r t) (slice_get cs c.0) 0

  abbrev pub IsEntry : EntryId → Type 0
  IsEntry e = e.index < length_in e.class e.table

  -- the number of an entry among those of its region
  abbrev pub entry_number : EntryId → ℕ
  entry_number e = before_in e.class e.table + e.index

  -- the entry of a region with this number
  pub record IsNumbered (class : Option ClassId) (number : ℕ) (e : EntryId) : Type 0 where
    pub class_is : e.class ≡ class
    pub is_entry : IsEntry e
    pub number_is : entry_number e ≡ number

module _ (cs : Classes) (main : Named) where
  -- where the entries of a region begin
  abbrev pub first_place : Option ClassId → ℕ
  first_place None = tables_at cs main
  first_place (Some c) = entries_at cs main c.0

  abbrev pub entry_place : EntryId → ℕ
  entry_place e = first_place e.class + word_size * entry_number cs e

  -- an entry that stands at this address
  pub record StandsAt (at : ℕ) (e : EntryId) : Type 0 where
    pub is_entry : IsEntry cs e
    pub here : entry_place e ≡ at

  -- what linking writes into a region
  abbrev pub results_in : Option ClassId → List (Result ℕ LinkError)
  results_in None = start_results cs main
  results_in (Some c) = option_map_or (entry_results cs main) (slice_get cs c.0) []

  -- the classes that its entries stand for
  abbrev pub classes_in : Option ClassId → List (Option Named)
  classes_in None = start_classes cs main
  classes_in (Some c) = option_map_or (entry_classes cs) (slice_get cs c.0) []

  abbrev pub entry_result : EntryId → Option (Result ℕ LinkError)
  entry_result e = slice_get (results_in e.class) (entry_number cs e)

  abbrev pub class_of_entry : EntryId → Option (Option Named)
  class_of_entry e = slice_get (classes_in e.class) (entry_number cs e)

  -- the entries of a region that are kept
  pub record AreEntriesIn (class : Option ClassId) (es : List Entry) : Type 0 where
    pub words : map (λ e. e.word) es ≡ results_in class
    pub classes : map (named_class cs) es ≡ classes_in class
    pub among : All (IsAmong cs) es

-- ---- regions

-- a class whose region begins at this address
pub record BeginsAt (cs : Classes) (main : Named) (at : ℕ) (c : ClassId) : Type 0 where
  pub within : c.0 < length cs
  pub here : region_at cs main c.0 ≡ at
