-- The entries of a table.
use Rattle.std.specs.Prelude.{List, map}
use Rattle.bcj_symbolic_measure.specs.declared.entry_table.EntryTable.{EntryTable}
use Rattle.bcj_symbolic_measure.specs.Entries.{PlainEntry}
use Rattle.bcj_symbolic_measure.specs.function.Counts.{entry_of}

-- those that were noted, in order
abbrev pub noted_in : EntryTable → List PlainEntry
noted_in t = map entry_of t.noted.keys
