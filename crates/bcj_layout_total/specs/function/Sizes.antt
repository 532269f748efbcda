-- The words of an image, class by class.
use Rattle.std.specs.Prelude.{ℕ, ◌+◌, ◌*◌, length, map, sum}
use Rattle.bcj_tables_rules.specs.declared.records.ClassRecord.{ClassRecord}
use Rattle.bcj_hier_rules.specs.Shapes.{Named}
use Rattle.bcj_layout_rules.specs.Members.{slots}
use Rattle.bcj_layout_rules.specs.Rows.{Classes, mixture_of, loaded, array_types}
use Rattle.bcj_layout_rules.specs.Places.{class_words, region_words, statics_in, dispatch_words, row_head, start_words, start_region_words, empty_dispatch}

-- its code, its tables and its static fields
abbrev pub class_size : ClassRecord → ℕ
class_size c = class_words c + (region_words c + length (statics_in c))

-- the row and the dispatch row of a type that loads
abbrev pub type_size : Classes → Named → ℕ
type_size cs name = (row_head + length (slots (mixture_of cs) name)) + dispatch_words cs name

abbrev pub size_in_words : Classes → Named → ℕ
size_in_words cs main =
    start_words cs main
    + (start_region_words cs main
    + (empty_dispatch cs main + (sum (map class_size cs) + (sum (map (type_size cs) (loaded cs)) + row_head * length (array_types cs)))))
