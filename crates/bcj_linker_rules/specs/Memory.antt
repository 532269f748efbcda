-- The memory that a run begins with, word by word from address 0, and the image of a list of objects, boot first.
use Rattle.std.specs.Prelude.{ℕ, zero, suc, ◌+◌, ◌-◌, ◌*◌, ◌/◌, max, true, List, [], ◌∷◌, ◌++◌, length, map, take, replicate, None, Some, Result, Ok, Err, if◌then◌else◌}
use Rattle.std.specs.List.{fold, flat_map, find}
use Rattle.std.specs.Option.{option_map_or}
use Rattle.bcj_symbolic_trees.specs.Types.{PlainTy, class_type}
use Rattle.bcj_elf.specs.Plain.{PlainObject}
use Rattle.bcj_elf.specs.Rules.{word_at}
use Rattle.bcj_elf.specs.Spelling as elf
use Rattle.bcj_tables_rules.specs.declared.records.ClassRecord.{ClassRecord}
use Rattle.bcj_hier_rules.specs.declared.link_error.LinkError.{LinkError}
use Rattle.bcj_hier_rules.specs.Shapes.{Named, Reference}
use Rattle.bcj_hier_rules.specs.Loading.{turns, is_interface, implements}
use Rattle.bcj_hier_rules.specs.Trees.{low, high}
use Rattle.bcj_hier_rules.specs.Resolution.{FoundMethod, resolved_interface}
use Rattle.bcj_hier_rules.specs.Selection.{open_within, with_code, selected}
use Rattle.bcj_layout_rules.specs.Members.{Slot, slots}
use Rattle.bcj_layout_rules.specs.Rows.{Classes, mixture_of, loaded, row_types, selectors, highest}
use Rattle.bcj_layout_rules.specs.Places.{word_size, start_at, image_words, method_at, dispatch_at, class_dispatch_at, dispatch_words, region_words, read_only_end, statics_in, heap_at}
use Rattle.bcj_layout_rules.specs.Entries.{address_in, address_of_method}
use Rattle.bcj_linker_rules.specs.Start.{start_code_words}
use Rattle.bcj_linker_rules.specs.Relocations.{relocated_words}

-- ---- objects

-- an object with its class records
pub record Linked : Type 0 where
  pub object : PlainObject
  pub classes : List ClassRecord

abbrev pub classes_of : List Linked → Classes
classes_of ls = flat_map (λ l. l.classes) ls

-- the words of bytes from an offset on
abbrev pub words_within : ℕ → ℕ → List ℕ → List ℕ
words_within zero at bytes = []
words_within (suc n) at bytes = word_at at bytes ∷ words_within n (at + word_size) bytes

abbrev pub object_words : Linked → List ℕ
object_words l = words_within (length l.object.text / word_size) 0 l.object.text

module _ (cs : Classes) (main : Named) where
  -- ---- text

  abbrev pub code_words : ℕ → List Linked → List ℕ
  code_words first [] = []
  code_words first (l ∷ ls) = relocated_words cs main first l.object.text_relocs 0 (object_words l) ++ code_words (first + length l.classes) ls

  -- ---- rows

  -- the address of what a call on an object of a class takes for a slot; 0 where that is none, or without code
  abbrev pub open_address : Result FoundMethod LinkError → ℕ
  open_address (Ok f) = address_of_method cs main f
  open_address (Err e) = 0

  abbrev pub slot_word : Named → Slot → ℕ
  slot_word class s =
      elim s.owner [
        | None ↦ open_address (with_code (mixture_of cs) (open_within (mixture_of cs) (turns (mixture_of cs)) s.name s.desc class))
        | Some owner ↦ address_in cs main owner s.name s.desc
      ]

  -- those of interfaces are 0
  abbrev pub slot_words : Named → List ℕ
  slot_words class =
      if is_interface (mixture_of cs) class
      then replicate (length (slots (mixture_of cs) class)) 0
      else map (slot_word class) (slots (mixture_of cs) class)

  abbrev pub class_row : ℕ → Named → List ℕ
  class_row number class =
      number ∷ low (mixture_of cs) class ∷ high (mixture_of cs) class ∷ class_dispatch_at cs main number class ∷ slot_words class

  abbrev pub type_row : ℕ → PlainTy → List ℕ
  type_row number (class_type name) = class_row number name
  type_row number t = number ∷ 0 ∷ 0 ∷ dispatch_at cs main ∷ []

  abbrev pub rows_from : ℕ → List PlainTy → List ℕ
  rows_from number [] = []
  rows_from number (t ∷ ts) = type_row number t ++ rows_from (suc number) ts

  -- ---- dispatch rows

  -- 1 stands for a method without code
  abbrev pub no_code : ℕ
  no_code = 1

  abbrev pub dispatched : Result FoundMethod LinkError → ℕ
  dispatched (Ok f) = address_of_method cs main f
  dispatched (Err e) = no_code

  abbrev pub selected_for : Named → Result FoundMethod LinkError → ℕ
  selected_for class (Ok f) = dispatched (selected (mixture_of cs) class f)
  selected_for class (Err e) = 0

  -- the word of a selector: 0 where the class doesn't implement its interface; whose code resolved it makes no difference, since a member of an
  -- interface isn't private
  abbrev pub dispatch_word : Named → Reference → ℕ
  dispatch_word class r =
      if implements (mixture_of cs) class r.class then selected_for class (resolved_interface (mixture_of cs) r.class r) else 0

  abbrev pub own_dispatch : Named → List ℕ
  own_dispatch class = word_size * highest cs class ∷ map (dispatch_word class) (take (highest cs class) (selectors cs))

  abbrev pub class_dispatch : Named → List ℕ
  class_dispatch class = elim (dispatch_words cs class) [ zero ↦ [] | suc n ↦ own_dispatch class ]

  -- the empty one stands first
  abbrev pub dispatch_rows : List ℕ
  dispatch_rows = 0 ∷ flat_map class_dispatch (loaded cs)

  -- ---- tables

  -- the address of the class initialiser; entries are 0 before linking
  abbrev pub region_of : ℕ → ClassRecord → List ℕ
  region_of k c = option_map_or (method_at cs main k c) (find (λ m. true) c.methods) 0 ∷ replicate (region_words c - 1) 0

  abbrev pub regions_from : ℕ → List ClassRecord → List ℕ
  regions_from k [] = []
  regions_from k (c ∷ rest) = region_of k c ++ regions_from (suc k) rest

  abbrev pub tables : List ℕ
  tables = 0 ∷ 0 ∷ 0 ∷ regions_from 0 cs

-- ---- statics: constants, and 0

abbrev pub static_words : Classes → List ℕ
static_words cs = flat_map (λ c. map (λ f. f.value) (statics_in c)) cs

-- ---- the whole

-- the words before the heap
unfoldable pub image_of : List Linked → Named → List ℕ
image_of ls main =
    replicate 4 0
    ++ (start_code_words (classes_of ls) main
    ++ (code_words (classes_of ls) main 0 ls
    ++ (rows_from (classes_of ls) main 0 (row_types (classes_of ls))
    ++ (dispatch_rows (classes_of ls) main ++ (tables (classes_of ls) main ++ static_words (classes_of ls))))))

-- the words of the largest frame
abbrev pub largest_frame : Classes → ℕ
largest_frame cs = fold max 0 (flat_map (λ c. map (λ m. m.frame) c.methods) cs)

abbrev pub stack_words : Classes → ℕ → ℕ
stack_words cs depth = (depth + 2) * largest_frame cs

pub record Image : Type 0 where
  pub memory : List ℕ
  pub start : ℕ
  pub read_only : ℕ
  pub words : ℕ
  pub heap_at : ℕ
  pub heap_words : ℕ
  pub depth : ℕ

-- the objects linked for a main class, with so many words of heap and frames at most `depth` deep
abbrev pub image : List Linked → Named → ℕ → ℕ → Image
image ls main heap depth = record {
  memory = elf.words (image_of ls main ++ (replicate heap 0 ++ replicate (stack_words (classes_of ls) depth) 0));
  start = start_at;
  read_only = read_only_end (classes_of ls) main;
  words = image_words (classes_of ls) main;
  heap_at = heap_at (classes_of ls) main;
  heap_words = heap;
  depth = depth;
}
