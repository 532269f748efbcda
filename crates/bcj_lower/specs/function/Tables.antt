-- Four tables as they are filled, use by use, and the places of entries in the region that they make.
use Rattle.std.specs.Prelude.{ℕ, ◌+◌, ◌*◌, List, [], ◌∷◌, length}
use Rattle.bcj_symbolic_measure.specs.Entries.{PlainEntry, with_entry}
use Rattle.bcj_symbolic_measure.specs.function.Noted.{noted_in}
use Rattle.bcj_lower_rules.specs.Lines.{Address, region, entry}
use Rattle.bcj_lower_rules.specs.Words.{word_size}
use Rattle.bcj_lower_rules.specs.Classes.{Table, class_table, offset_table, address_table, interface_table, table, table_of, number_in}
use Rattle.bcj_lower.specs.declared.tables.Tables.{Tables}

pub record PlainTables : Type 0 where
  pub classes : List PlainEntry
  pub offsets : List PlainEntry
  pub addresses : List PlainEntry
  pub interfaces : List PlainEntry

abbrev pub tables_in : Tables → PlainTables
tables_in t = record {
  classes = noted_in t.classes;
  offsets = noted_in t.offsets;
  addresses = noted_in t.addresses;
  interfaces = noted_in t.interfaces;
}

-- the tables of uses
abbrev pub tables_of : List PlainEntry → PlainTables
tables_of uses = record {
  classes = table class_table uses;
  offsets = table offset_table uses;
  addresses = table address_table uses;
  interfaces = table interface_table uses;
}

-- ---- use by use

abbrev pub no_tables : PlainTables
no_tables = record { classes = []; offsets = []; addresses = []; interfaces = [] }

abbrev pub noted_at : Table → PlainTables → PlainEntry → PlainTables
noted_at class_table t e = record t { classes = with_entry t.classes e }
noted_at offset_table t e = record t { offsets = with_entry t.offsets e }
noted_at address_table t e = record t { addresses = with_entry t.addresses e }
noted_at interface_table t e = record t { interfaces = with_entry t.interfaces e }

abbrev pub with_use : PlainTables → PlainEntry → PlainTables
with_use t e = noted_at (table_of e.role) t e

abbrev pub with_uses : PlainTables → List PlainEntry → PlainTables
with_uses t [] = t
with_uses t (e ∷ uses) = with_uses (with_use t e) uses

-- ---- places

abbrev pub offset_start : PlainTables → ℕ
offset_start t = 1 + length t.classes

abbrev pub address_start : PlainTables → ℕ
address_start t = offset_start t + length t.offsets

abbrev pub interface_start : PlainTables → ℕ
interface_start t = address_start t + length t.addresses

abbrev pub place_at : Table → PlainTables → PlainEntry → ℕ
place_at class_table t e = 1 + number_in e t.classes
place_at offset_table t e = offset_start t + number_in e t.offsets
place_at address_table t e = address_start t + number_in e t.addresses
place_at interface_table t e = interface_start t + number_in e t.interfaces

-- the word of an entry, from the region's first
abbrev pub entry_place : PlainTables → PlainEntry → ℕ
entry_place t e = place_at (table_of e.role) t e

abbrev pub addend : PlainTables → Address → ℕ
addend t region = 0
addend t (entry e) = word_size * entry_place t e
