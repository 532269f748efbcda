-- The limits of a unit, by the code scheme with all jumps long.
use Rattle.std.specs.Prelude.{ℕ, ◌≤◌, nat_lt, Option, Some, None, if◌then◌else◌}
use Rattle.bcj_symbolic_trees.specs.Units.{PlainUnit}
use Rattle.bcj_symbolic_measure.specs.Measures.{largest_frame, largest_method}
use Rattle.bcj_symbolic_measure.specs.Objects.{object_size}
use Rattle.bcj_lower_rules.specs.Bodies.{max_frame}
use Rattle.bcj_asm.specs.Assembly.{max_words}
use Rattle.bcj_object_rules.specs.declared.limit.ObjectLimit.{ObjectLimit}
use Rattle.bcj_object_rules.specs.declared.limit.ObjectLimit.TheVariants as limit

-- the most bytes of an object file
abbrev pub max_object : ℕ
max_object = 4194304

pub record IsSmall (u : PlainUnit) : Type 0 where
  pub frame : largest_frame u ≤ max_frame
  pub method : largest_method u ≤ max_words
  pub object : object_size u ≤ max_object

-- the first number that passes its limit: the frame, the method, the object
unfoldable pub excess : PlainUnit → Option ObjectLimit
excess u =
    if nat_lt max_frame (largest_frame u)
    then Some limit.Frame
    else if nat_lt max_words (largest_method u)
    then Some limit.Method
    else if nat_lt max_object (object_size u) then Some limit.Object else None
