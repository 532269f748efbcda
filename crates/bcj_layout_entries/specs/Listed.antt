-- One entry, and entries that are put behind others.
use Rattle.std.specs.Prelude.{◌≡◌, ℕ, Bool, List, ◌++◌, map, is_none, Option, None, Result, if◌then◌else◌}
use Rattle.std.specs.List.{All}
use Rattle.bcj_symbolic_trees.specs.Types.{PlainTy}
use Rattle.bcj_hier_rules.specs.declared.link_error.LinkError.{LinkError}
use Rattle.bcj_hier_rules.specs.Shapes.{Named}
use Rattle.bcj_hier_rules.specs.Resolution.{type_error}
use Rattle.bcj_layout_rules.specs.Rows.{Classes, mixture_of}
use Rattle.bcj_layout_rules.specs.Entries.{unless_error, row_of}
use Rattle.bcj_layout_entries.specs.declared.entries.Entry.{Entry}
use Rattle.bcj_layout_entries.specs.Classes.{class_of_type}
use Rattle.bcj_layout_entries.specs.Entries.{named_class, IsAmong}

-- the word of a type, which is asked for by `is_new` to make an object of it
abbrev pub type_word : Classes → Named → PlainTy → Bool → Result ℕ LinkError
type_word cs main t is_new = unless_error (type_error (mixture_of cs) t is_new) (row_of cs main t)

-- its class, where it has one and it may be used so
abbrev pub type_class : Classes → PlainTy → Bool → Option Named
type_class cs t is_new = if is_none (type_error (mixture_of cs) t is_new) then class_of_type t else None

-- an entry with this word and this class
pub record IsEntry (cs : Classes) (wanted : Result ℕ LinkError) (declaring : Option Named) (e : Entry) : Type 0 where
  pub is_word : e.word ≡ wanted
  pub is_class : named_class cs e ≡ declaring
  pub among : IsAmong cs e

-- behind the entries before stand others, with these words and these classes
pub record AreBehind (cs : Classes) (words : List (Result ℕ LinkError)) (classes : List (Option Named)) (before after : List Entry) : Type 0 where
  pub all_words : map (λ e. e.word) after ≡ map (λ e. e.word) before ++ words
  pub all_classes : map (named_class cs) after ≡ map (named_class cs) before ++ classes
  pub among : All (IsAmong cs) before → All (IsAmong cs) after
