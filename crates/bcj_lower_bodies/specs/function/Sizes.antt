-- The sizes of bodies against their limits, as they are tested.
use Rattle.std.specs.Prelude.{ℕ, nat_lt, List, [], ◌∷◌, map, Option, Some, None, if◌then◌else◌}
use Rattle.bcj_asm.specs.Assembly.{max_words}
use Rattle.bcj_symbolic_trees.specs.Units.{PlainClass}
use Rattle.bcj_symbolic_measure.specs.declared.measured.BodySize.{BodySize}
use Rattle.bcj_symbolic_measure.specs.Bodies.{init_frame_size, method_frame_size}
use Rattle.bcj_lower_rules.specs.declared.limit.Limit.{Limit}
use Rattle.bcj_lower_rules.specs.declared.limit.Limit.TheVariants as limit
use Rattle.bcj_lower_rules.specs.Bodies.{max_frame, or_else_excess}

abbrev pub size_excess : BodySize → Option Limit
size_excess s = if nat_lt max_frame s.frame then Some limit.Frame else if nat_lt max_words s.words then Some limit.Method else None

abbrev pub sizes_excess : List BodySize → Option Limit
sizes_excess [] = None
sizes_excess (s ∷ rest) = or_else_excess (size_excess s) (sizes_excess rest)

abbrev pub frames_of : List BodySize → List ℕ
frames_of [] = []
frames_of (s ∷ rest) = s.frame ∷ frames_of rest

-- the frame of each body of a class
abbrev pub class_frames : PlainClass → List ℕ
class_frames c = init_frame_size c ∷ map method_frame_size c.methods
