-- The methods of an image by their addresses, with the words of their frames and their ranges.
use Rattle.std.specs.Prelude.{ℕ, zero, suc, ◌+◌, ◌-◌, ◌*◌, ◌==◌, Bool, List, [], ◌∷◌, ◌++◌, map}
use Rattle.std.specs.List.{filter, find}
use Rattle.std.specs.Option.{option_map_or}
use Rattle.bcj_tables_rules.specs.declared.records.MethodRecord.{MethodRecord}
use Rattle.bcj_tables_rules.specs.declared.records.Range.{Range}
use Rattle.bcj_tables_rules.specs.declared.records.ClassRecord.{ClassRecord}
use Rattle.bcj_hier_rules.specs.Shapes.{Named}
use Rattle.bcj_layout_rules.specs.Rows.{Classes}
use Rattle.bcj_layout_rules.specs.Places.{word_size, start_at, text_at, class_text_at, method_at}
use Rattle.bcj_linker_rules.specs.Frames.{AddressRange, MethodSpan, Spans}

module _ (cs : Classes) (main : Named) where
  -- the address of an offset in the code of the object of a class
  abbrev pub code_at : ℕ → ClassRecord → ℕ → ℕ
  code_at k c offset = class_text_at cs main k + (offset - option_map_or (λ m. m.entry) (find (λ m. Bool.true) c.methods) 0)

  abbrev pub range_at : ℕ → ClassRecord → Range → AddressRange
  range_at k c r = record { start = code_at k c r.start; «end» = code_at k c r.«end»; target = code_at k c r.target; class = r.class }

  -- the ranges of the method with this number
  abbrev pub ranges_of : ℕ → ClassRecord → ℕ → List AddressRange
  ranges_of k c number = map (range_at k c) (filter (λ r. r.method == number) c.ranges)

  abbrev pub span_of : ℕ → ClassRecord → ℕ → MethodRecord → MethodSpan
  span_of k c number m = record {
    first = method_at cs main k c m;
    past = method_at cs main k c m + word_size * m.words;
    frame = m.frame;
    ranges = ranges_of k c number;
  }

  -- a method without code stands nowhere
  abbrev pub with_span : ℕ → ClassRecord → ℕ → MethodRecord → List MethodSpan → List MethodSpan
  with_span k c number m spans = elim m.words [ zero ↦ spans | suc n ↦ span_of k c number m ∷ spans ]

  abbrev pub method_spans : ℕ → ClassRecord → ℕ → List MethodRecord → List MethodSpan
  method_spans k c number [] = []
  method_spans k c number (m ∷ ms) = with_span k c number m (method_spans k c (suc number) ms)

  abbrev pub class_spans : ℕ → List ClassRecord → List MethodSpan
  class_spans k [] = []
  class_spans k (c ∷ rest) = method_spans k c 0 c.methods ++ class_spans (suc k) rest

  abbrev pub spans : Spans
  spans = record { start = start_at; «end» = text_at cs main; methods = class_spans 0 cs }
