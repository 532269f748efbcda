-- The entries that are kept, by the definitions of what linking writes.
use Rattle.std.specs.Prelude.{◌≡◌, ℕ, List, map, length, slice_get, Some, IfSome, Option}
use Rattle.std.specs.Option.{option_map}
use Rattle.std.specs.List.{All}
use Rattle.bcj_tables_rules.specs.declared.records.ClassRecord.{ClassRecord}
use Rattle.bcj_hier_rules.specs.Shapes.{Named}
use Rattle.bcj_hier_rules.specs.Heads.{IsIn, name_of}
use Rattle.bcj_layout_rules.specs.Rows.{Classes}
use Rattle.bcj_layout_resolution.specs.Places.{heads_in}
use Rattle.bcj_linker_rules.specs.States.{entry_results}
use Rattle.bcj_layout_entries.specs.declared.entries.Entry.{Entry}
use Rattle.bcj_layout_entries.specs.Classes.{entry_classes}

-- the name of the class that an entry stands for
abbrev pub named_class : Classes → Entry → Option Named
named_class cs e = option_map (name_of (heads_in cs)) e.class

-- the class that an entry stands for, where there is one, is one of these
abbrev pub IsAmong : Classes → Entry → Type 0
IsAmong cs e = IfSome e.class (IsIn (heads_in cs))

pub record AreEntries (cs : Classes) (main : Named) (c : ClassRecord) (es : List Entry) : Type 0 where
  pub words : map (λ e. e.word) es ≡ entry_results cs main c
  pub classes : map (named_class cs) es ≡ entry_classes cs c
  pub among : All (IsAmong cs) es

-- those of each class
pub record AreAllEntries (cs : Classes) (main : Named) (all : List (List Entry)) : Type 0 where
  pub count : length all ≡ length cs
  pub each : (k : ℕ) (c : ClassRecord) (es : List Entry) → slice_get cs k ≡ Some c → slice_get all k ≡ Some es → AreEntries cs main c es
