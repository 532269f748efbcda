-- The code of methods and class initialisers, in the order of the class's record, and which of them passes a limit.
use Rattle.std.specs.Prelude.{ℕ, zero, suc, ◌+◌, ◌-◌, nat_lt, List, [], ◌∷◌, ◌++◌, length, Option, Some, None, if◌then◌else◌}
use Rattle.rv_isa.specs.declared.instruction.Instr.TheVariants as instr
use Rattle.rv_isa.specs.Registers.{sp}
use Rattle.rv_isa.specs.Registers as register
use Rattle.rv_steps.specs.Services as services
use Rattle.bcj_asm.specs.Forms.{sizes, all_long}
use Rattle.bcj_asm.specs.Assembly.{max_words}
use Rattle.bcj_symbolic_trees.specs.Types.{PlainTy}
use Rattle.bcj_symbolic_trees.specs.Units.{PlainMethod, PlainClass}
use Rattle.bcj_symbolic_check.specs.Steps.{is_void}
use Rattle.bcj_symbolic_check.specs.Classes.{is_abstract, init_frame, method_frame}
use Rattle.bcj_symbolic_measure.specs.Entries.{class_entry}
use Rattle.bcj_symbolic_measure.specs.Scheme.{is_object_class}
use Rattle.bcj_symbolic_measure.specs.Bodies.{init_frame_size, method_frame_size, hidden_parameters}
use Rattle.bcj_lower_rules.specs.declared.limit.Limit.{Limit}
use Rattle.bcj_lower_rules.specs.declared.limit.Limit.TheVariants as limit
use Rattle.bcj_lower_rules.specs.Lines.{Line, items_of, word, place}
use Rattle.bcj_lower_rules.specs.Words.{local, small_number, service, enter, exit, use_entry, initialise, region_first, region_second}
use Rattle.bcj_lower_rules.specs.Nodes.{Context, Around, stmts_lines}
use Rattle.bcj_lower_rules.specs.Ranges.{LabelRange, stmts_ranges}

-- a method has no code, or a frame of so many words, lines and ranges
pub data Body : Type 0 where
  without_code : Body
  with_code : ℕ → List Line → List LabelRange → Body

-- outside of a loop nothing is left
abbrev pub no_loop : Around
no_loop = record { leave = 0; again = 0 }

-- n locals from i on become zero, one word each
abbrev pub zero_locals : (frame i n : ℕ) → List Line
zero_locals frame i zero = []
zero_locals frame i (suc n) = word (instr.Sw sp register.zero (local frame i)) ∷ zero_locals frame (i + 1) n

-- the locals behind `this` and the parameters
abbrev pub parameters : PlainMethod → ℕ
parameters m = hidden_parameters m.kind + length m.params

-- a method with a result that runs off its end gives zero
abbrev pub last_value : PlainTy → List Line
last_value result = if is_void result then [] else small_number 0

abbrev pub method_context : PlainClass → PlainMethod → Context
method_context c m = record { typing = method_frame c m; frame = method_frame_size m }

unfoldable pub method_lines : PlainClass → PlainMethod → List Line
method_lines c m =
    enter (method_frame_size m)
    ++ (zero_locals (method_frame_size m) (parameters m) (length m.locals - parameters m)
    ++ (stmts_lines (method_context c m) no_loop 0 m.body ++ (last_value m.result ++ exit (method_frame_size m))))

unfoldable pub method_body : PlainClass → PlainMethod → Body
method_body c m =
    if is_abstract m.kind then without_code else with_code (method_frame_size m) (method_lines c m) (stmts_ranges 0 m.body)

-- ---- the class initialiser

-- the labels of its range, and the first of its body
abbrev pub init_start : ℕ
init_start = 0

abbrev pub init_end : ℕ
init_end = 1

abbrev pub init_target : ℕ
init_target = 2

abbrev pub init_labels : ℕ
init_labels = 3

-- the superclass is initialised first, unless it is Object
abbrev pub superclass_lines : Option (List ℕ) → List Line
superclass_lines None = []
superclass_lines (Some name) = if is_object_class name then [] else use_entry (class_entry name) ++ initialise

abbrev pub init_context : PlainClass → Context
init_context c = record { typing = init_frame c; frame = init_frame_size c }

-- behind the initialisers the class is done; what any throw in them reaches says that it failed, and throws on
unfoldable pub init_lines : PlainClass → List Line
init_lines c =
    enter (init_frame_size c)
    ++ (zero_locals (init_frame_size c) 0 (length c.init.locals)
    ++ (place init_start
    ++ (superclass_lines c.head.superclass
    ++ (stmts_lines (init_context c) no_loop init_labels c.init.body
    ++ (region_first
    ++ (service services.init_done
    ++ (place init_end
    ++ (exit (init_frame_size c)
    ++ (place init_target ++ (region_second ++ (service services.init_failed ++ service services.throw)))))))))))

abbrev pub init_range : LabelRange
init_range = record { start = init_start; end = init_end; target = init_target; class = None }

unfoldable pub init_body : PlainClass → Body
init_body c = with_code (init_frame_size c) (init_lines c) (stmts_ranges init_labels c.init.body ++ init_range ∷ [])

abbrev pub method_bodies : PlainClass → List PlainMethod → List Body
method_bodies c [] = []
method_bodies c (m ∷ rest) = method_body c m ∷ method_bodies c rest

-- the class initialiser stands before the methods
abbrev pub bodies_of : PlainClass → List Body
bodies_of c = init_body c ∷ method_bodies c c.methods

-- ---- limits

-- the most words of a frame
abbrev pub max_frame : ℕ
max_frame = 508

-- the words of lines with all jumps long
unfoldable pub long_words : List Line → ℕ
long_words lines = sizes (all_long (items_of lines))

-- the first number of a body that passes its limit: the frame before the words
unfoldable pub excess : Body → Option Limit
excess without_code = None
excess (with_code frame lines ranges) =
    if nat_lt max_frame frame
    then Some limit.Frame
    else if nat_lt max_words (long_words lines) then Some limit.Method else None

abbrev pub or_else_excess : Option Limit → Option Limit → Option Limit
or_else_excess (Some l) rest = Some l
or_else_excess None rest = rest

-- and that of the first body that has one
abbrev pub first_excess : List Body → Option Limit
first_excess [] = None
first_excess (b ∷ rest) = or_else_excess (excess b) (first_excess rest)
