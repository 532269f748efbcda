-- The entries of the start's region: the main class, the type of the arguments, and the `main` that is taken. That one is searched in the record of the
-- main class alone.
use Rattle.std.specs.Prelude.{◌≡◌, ℕ, false, List, [], ◌∷◌, map, Option, None, Some, Result, Ok, Err, is_none, if◌then◌else◌}
use Rattle.std.specs.List.{All, find}
use Rattle.bcj_symbolic_trees.specs.Types.{PlainTy, class_type}
use Rattle.bcj_tables_rules.specs.declared.records.MethodRecord.{MethodRecord}
use Rattle.bcj_tables_rules.specs.declared.records.ClassRecord.{ClassRecord}
use Rattle.bcj_hier_rules.specs.declared.link_error.LinkError.{LinkError}
use Rattle.bcj_hier_rules.specs.declared.link_error.LinkError.TheVariants as error
use Rattle.bcj_hier_rules.specs.Shapes.{Named}
use Rattle.bcj_hier_rules.specs.Resolution.{type_error}
use Rattle.bcj_layout_rules.specs.Rows.{Classes, mixture_of, arguments_type}
use Rattle.bcj_layout_rules.specs.Places.{record_of, index_of, method_at, is_main, main_descriptor}
use Rattle.bcj_layout_rules.specs.Entries.{unless_error, row_of}
use Rattle.bcj_layout_entries.specs.declared.entries.Entry.{Entry}
use Rattle.bcj_layout_entries.specs.Entries.{named_class, IsAmong}

module _ (cs : Classes) (main : Named) where
  abbrev pub type_result : PlainTy → Result ℕ LinkError
  type_result t = unless_error (type_error (mixture_of cs) t false) (row_of cs main t)

  -- the main method of the record
  abbrev pub taken : ClassRecord → Option MethodRecord
  taken c = find (is_main (main_descriptor cs main)) c.methods

  abbrev pub address_taken : ClassRecord → Option MethodRecord → Result ℕ LinkError
  address_taken c None = Err error.NoSuchMethod
  address_taken c (Some m) = Ok (method_at cs main (index_of cs main) c m)

  abbrev pub address_within : Option ClassRecord → Result ℕ LinkError
  address_within None = Err error.NoSuchMethod
  address_within (Some c) = address_taken c (taken c)

  abbrev pub main_result : Result ℕ LinkError
  main_result = address_within (record_of cs main)

  abbrev pub start_results : List (Result ℕ LinkError)
  start_results = type_result (class_type main) ∷ type_result arguments_type ∷ main_result ∷ []

  -- the classes that these entries stand for
  abbrev pub main_class : Option Named
  main_class = if is_none (type_error (mixture_of cs) (class_type main) false) then Some main else None

  abbrev pub declaring_class : Result ℕ LinkError → Option Named
  declaring_class (Ok at) = Some main
  declaring_class (Err e) = None

  abbrev pub start_classes : List (Option Named)
  start_classes = main_class ∷ None ∷ declaring_class main_result ∷ []

pub record AreStartEntries (cs : Classes) (main : Named) (es : List Entry) : Type 0 where
  pub words : map (λ e. e.word) es ≡ start_results cs main
  pub classes : map (named_class cs) es ≡ start_classes cs main
  pub among : All (IsAmong cs) es
