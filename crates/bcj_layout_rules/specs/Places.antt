-- Where the parts of an image lie. From address 0: zero bytes, start code, the text of the classes, rows, dispatch rows, tables, statics; then the
-- heap and the stack. All but heap and stack are the image.
use Rattle.std.specs.Prelude.{ℕ, zero, suc, ◌+◌, ◌-◌, ◌*◌, Bool, true, false, ◌&&◌, List, length, take, map, sum, codes, is_some, Option, if◌then◌else◌}
use Rattle.std.specs.List.{find, filter, position}
use Rattle.std.specs.Option.{option_map_or}
use Rattle.std.specs.Str.{bytes_eq}
use Rattle.bcj_symbolic_trees.specs.Types.{PlainTy, class_type}
use Rattle.bcj_tables_rules.specs.declared.records.FieldRecord.{FieldRecord}
use Rattle.bcj_tables_rules.specs.declared.records.MethodRecord.{MethodRecord}
use Rattle.bcj_tables_rules.specs.declared.records.ClassRecord.{ClassRecord}
use Rattle.bcj_tables_rules.specs.Codes as codes_of
use Rattle.bcj_hier_rules.specs.Shapes.{Named}
use Rattle.bcj_hier_rules.specs.Loading.{is_interface}
use Rattle.bcj_layout_rules.specs.Members.{slots}
use Rattle.bcj_layout_rules.specs.Rows.{Classes, mixture_of, loaded, row_types, highest}

abbrev pub word_size : ℕ
word_size = 4

abbrev pub record_of : Classes → Named → Option ClassRecord
record_of cs name = find (λ c. bytes_eq c.head.name name) cs

-- the number of a class in the list
abbrev pub index_of : Classes → Named → ℕ
index_of cs name = option_map_or (λ k. k) (position (λ c. bytes_eq c.head.name name) cs) 0

-- ---- start

-- the forms of main
abbrev pub main_with_arguments : List ℕ
main_with_arguments = codes "([LString;)V"

abbrev pub main_without : List ℕ
main_without = codes "()V"

abbrev pub is_main : List ℕ → MethodRecord → Bool
is_main desc m = bytes_eq m.name (codes "main") && (bytes_eq m.desc desc && codes_of.is_static m.kind)

abbrev pub declares_main : List ℕ → ClassRecord → Bool
declares_main desc c = is_some (find (is_main desc) c.methods)

-- main(String[]) is taken before main(), from the record of the class, whether or not it loads
abbrev pub takes_arguments : Classes → Named → Bool
takes_arguments cs main = option_map_or (declares_main main_with_arguments) (record_of cs main) false

-- the descriptor of the main that is taken, or that is asked for in vain
abbrev pub main_descriptor : Classes → Named → List ℕ
main_descriptor cs main = if takes_arguments cs main then main_with_arguments else main_without

-- the words of the start code for each form
abbrev pub short_start : ℕ
short_start = 23

abbrev pub long_start : ℕ
long_start = 30

abbrev pub start_words : Classes → Named → ℕ
start_words cs main = if takes_arguments cs main then long_start else short_start

abbrev pub start_at : ℕ
start_at = 16

-- ---- text

abbrev pub class_words : ClassRecord → ℕ
class_words c = sum (map (λ m. m.words) c.methods)

abbrev pub text_words : Classes → ℕ
text_words cs = sum (map class_words cs)

-- the start code and all methods
abbrev pub image_words : Classes → Named → ℕ
image_words cs main = start_words cs main + text_words cs

-- the words of a class's table region: the address of the class initialiser, and one for each entry
abbrev pub region_words : ClassRecord → ℕ
region_words c = 1 + length c.ctable + length c.otable + length c.atable + length c.itable

abbrev pub statics_in : ClassRecord → List FieldRecord
statics_in c = filter (λ f. f.is_static) c.fields

-- the words of a class's own dispatch row, which it has where it implements the interface of a selector
abbrev pub dispatch_words : Classes → Named → ℕ
dispatch_words cs class = if is_interface (mixture_of cs) class then 0 else elim (highest cs class) [ zero ↦ 0 | suc n ↦ suc (suc n) ]

-- the words of a row before its slots
abbrev pub row_head : ℕ
row_head = 4

module _ (cs : Classes) (main : Named) where
  abbrev pub text_at : ℕ
  text_at = start_at + word_size * start_words cs main

  -- where the code of a class begins, by its number
  abbrev pub class_text_at : ℕ → ℕ
  class_text_at k = text_at + word_size * text_words (take k cs)

  -- a method's address; offsets in a record count from the first word of the class's object
  abbrev pub method_at : ℕ → ClassRecord → MethodRecord → ℕ
  method_at k c m = class_text_at k + (m.entry - option_map_or (λ first. first.entry) (find (λ m. true) c.methods) 0)

  -- ---- rows: the number of the type, low, high, the address of a dispatch row, and the slots

  abbrev pub rows_at : ℕ
  rows_at = class_text_at (length cs)

  abbrev pub row_slots : PlainTy → ℕ
  row_slots (class_type name) = length (slots (mixture_of cs) name)
  row_slots _ = 0

  abbrev pub row_words : PlainTy → ℕ
  row_words t = row_head + row_slots t

  -- the address of the row with this number
  abbrev pub row_at : ℕ → ℕ
  row_at n = rows_at + word_size * sum (map row_words (take n (row_types cs)))

  -- ---- dispatch rows: 4 times the highest selector, and a word for each selector up to it

  abbrev pub dispatch_at : ℕ
  dispatch_at = row_at (length (row_types cs))

  -- the empty one has one word and stands first
  abbrev pub empty_dispatch : ℕ
  empty_dispatch = 1

  abbrev pub own_dispatch_at : ℕ → ℕ
  own_dispatch_at k = dispatch_at + word_size * (empty_dispatch + sum (map (dispatch_words cs) (take k (loaded cs))))

  -- that of the loaded class with this number
  abbrev pub class_dispatch_at : ℕ → Named → ℕ
  class_dispatch_at k class = elim (dispatch_words cs class) [ zero ↦ dispatch_at | suc n ↦ own_dispatch_at k ]

  -- ---- tables: the start's region, and then each class's

  abbrev pub tables_at : ℕ
  tables_at = own_dispatch_at (length (loaded cs))

  -- the row of MAIN, the row of the arguments' type, and main
  abbrev pub start_region_words : ℕ
  start_region_words = 3

  abbrev pub region_at : ℕ → ℕ
  region_at k = tables_at + word_size * (start_region_words + sum (map region_words (take k cs)))

  -- stores go behind the tables alone
  abbrev pub read_only_end : ℕ
  read_only_end = region_at (length cs)

  -- ---- statics, a word for each static field

  abbrev pub statics_at : ℕ
  statics_at = read_only_end

  abbrev pub class_statics_at : ℕ → ℕ
  class_statics_at k = statics_at + word_size * sum (map (λ c. length (statics_in c)) (take k cs))

  abbrev pub is_named : Named → List ℕ → FieldRecord → Bool
  is_named name desc f = bytes_eq f.name name && bytes_eq f.ty desc

  -- the address of a static field of the class with this number
  abbrev pub static_at : ℕ → ClassRecord → Named → List ℕ → ℕ
  static_at k c name desc = class_statics_at k + word_size * option_map_or (λ n. n) (position (is_named name desc) (statics_in c)) 0

  -- ---- the heap begins behind the statics

  abbrev pub heap_at : ℕ
  heap_at = class_statics_at (length cs)

-- the most bytes of an image
abbrev pub max_image : ℕ
max_image = 67108864
