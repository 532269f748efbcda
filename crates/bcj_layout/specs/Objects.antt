-- The sizes of objects.
use Rattle.std.specs.Prelude.{ℕ, ◌+◌, min, if◌then◌else◌}
use Rattle.bcj_hier_rules.specs.Shapes.{Named}
use Rattle.bcj_hier_rules.specs.Trees.{loads}
use Rattle.bcj_layout_rules.specs.Members.{field_count}
use Rattle.bcj_layout_rules.specs.Rows.{Classes, mixture_of}

-- how many fields are kept of a type: those of its objects, and 0 where it doesn't load
abbrev pub kept_fields : Classes → Named → ℕ
kept_fields cs name = if loads (mixture_of cs) name then field_count (mixture_of cs) name else 0

-- the last value of a word
abbrev pub last_word : ℕ
last_word = 4294967295

-- the words of an object with so many fields: one more, for its row
abbrev pub object_words : ℕ → ℕ
object_words fields = min (fields + 1) last_word
