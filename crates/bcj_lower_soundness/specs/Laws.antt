-- What holds of the lines of a class.
use Rattle.std.specs.Prelude.{◌≡◌, ◌<◌, ◌≤◌, false, List, length}
use Rattle.bcj_asm.specs.Assembly.{AreItems}
use Rattle.bcj_symbolic_trees.specs.Units.{PlainMethod, PlainClass}
use Rattle.bcj_symbolic_check.specs.Classes.{is_abstract}
use Rattle.bcj_symbolic_measure.specs.Bodies.{init_frame_size, method_frame_size}
use Rattle.bcj_lower_rules.specs.Lines.{Line, items_of}
use Rattle.bcj_lower_rules.specs.Bodies.{method_lines, init_lines, max_frame, long_words}
use Rattle.bcj_lower_rules.specs.Classes.{line_words}

-- ---- registers and immediates are in range

-- of whatever numbers the trees have: a number of 32 bits is made of the two halves of its bits
abbrev pub MethodLinesAreItems : Type 0
MethodLinesAreItems =
    (c : PlainClass) (m : PlainMethod) → is_abstract m.kind ≡ false → method_frame_size m ≤ max_frame → AreItems (items_of (method_lines c m))

abbrev pub InitLinesAreItems : Type 0
InitLinesAreItems = (c : PlainClass) → init_frame_size c ≤ max_frame → AreItems (items_of (init_lines c))

-- ---- words

-- branches only become shorter
abbrev pub ShortIsNotLonger : Type 0
ShortIsNotLonger = (lines : List Line) → length (line_words lines) ≤ long_words lines

abbrev pub MethodsHaveWords : Type 0
MethodsHaveWords = (c : PlainClass) (m : PlainMethod) → 0 < length (line_words (method_lines c m))

abbrev pub InitHasWords : Type 0
InitHasWords = (c : PlainClass) → 0 < length (line_words (init_lines c))
