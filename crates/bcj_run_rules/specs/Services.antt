-- What each service does at an ECALL, by the number in a7. A service keeps all registers but a0; refilling the turns sets s11 too.
use Rattle.std.specs.Prelude.{ℕ, zero, suc, ◌+◌, ◌-◌, ◌%◌, ◌^◌, ◌==◌, ◌&&◌, nat_le, nat_lt, min, Bool, true, false, not, List, [], ◌∷◌, ◌++◌, length, codes, replicate, slice_get, slice_set, Option, None, Some, Result, Ok, Err, if◌then◌else◌}
use Rattle.std.specs.List.{find}
use Rattle.std.specs.Option.{option_map_or}
use Rattle.std.specs.Fmt.{signed_decimal}
use Rattle.std.specs.Int.{w32, cast_signed}
use Rattle.rv_isa.specs.Registers as register_of
use Rattle.rv_machine.specs.Machine.{State, register, with_register, with_bytes}
use Rattle.rv_steps.specs.MachineRun.{Answer, Resumed, Ended, Refused}
use Rattle.rv_steps.specs.Services as services
use Rattle.bcj_elf.specs.Rules.{word_at}
use Rattle.bcj_elf.specs.Spelling as elf
use Rattle.bcj_symbolic_trees.specs.Names.{throwable_name}
use Rattle.bcj_symbolic_trees.specs.Types.{PlainTy, class_type, array_type}
use Rattle.bcj_tables_rules.specs.declared.records.ClassRecord.{ClassRecord}
use Rattle.bcj_hier_rules.specs.declared.link_error.LinkError.{LinkError}
use Rattle.bcj_hier_rules.specs.declared.link_error.LinkError.TheVariants as error
use Rattle.bcj_hier_rules.specs.Shapes.{Named}
use Rattle.bcj_hier_rules.specs.Resolution.{cannot_be_made}
use Rattle.bcj_hier_rules.specs.Linking.{instance, is_reference}
use Rattle.bcj_layout_rules.specs.Members.{field_count}
use Rattle.bcj_layout_rules.specs.Rows.{mixture_of}
use Rattle.bcj_layout_rules.specs.Places.{word_size, index_of, method_at}
use Rattle.bcj_layout_rules.specs.Entries.{row_of}
use Rattle.bcj_linker_rules.specs.declared.state.ClassState.{ClassState}
use Rattle.bcj_linker_rules.specs.declared.state.ClassState.TheVariants as state
use Rattle.bcj_linker_rules.specs.States.{entry_words, resolved_count, entries_at, Begun, run, pass, throws, begun}
use Rattle.bcj_linker_rules.specs.Frames.{Unwound, handler, top, damaged, unwound}
use Rattle.bcj_run_rules.specs.Code.{spans}
use Rattle.bcj_run_rules.specs.Entries.{Region, of_start, of_class, TableEntry, entry_with, region_with}
use Rattle.bcj_run_rules.specs.World.{Program, World, End, done, uncaught, turns_spent, depth_spent, heap_spent, lost}
use Rattle.bcj_run_rules.specs.Objects.{type_with, next_object, object_type}

-- ---- the classes of errors

abbrev pub error_class : LinkError → Named
error_class error.ClassCircularity = codes "ClassCircularityError"
error_class error.NoClassDefFound = codes "NoClassDefFoundError"
error_class error.Verify = codes "VerifyError"
error_class error.IncompatibleClassChange = codes "IncompatibleClassChangeError"
error_class error.ExceptionInInitializer = codes "ExceptionInInitializerError"
error_class error.NoSuchField = codes "NoSuchFieldError"
error_class error.NoSuchMethod = codes "NoSuchMethodError"
error_class error.Instantiation = codes "InstantiationError"
error_class error.IllegalAccess = codes "IllegalAccessError"
error_class error.AbstractMethod = codes "AbstractMethodError"

-- the exceptions that code throws by a number (JLS 15)
abbrev pub numbered_errors : List Named
numbered_errors =
    codes "NullPointerException"
    ∷ codes "ArithmeticException"
    ∷ codes "ArrayIndexOutOfBoundsException"
    ∷ codes "AbstractMethodError"
    ∷ codes "ClassCastException"
    ∷ codes "IncompatibleClassChangeError"
    ∷ []

-- ---- parts of an answer

abbrev pub Answered : Type 0
Answered = Answer World End

abbrev pub a0_of : State → ℕ
a0_of s = register s register_of.a0

abbrev pub a1_of : State → ℕ
a1_of s = register s register_of.a1

-- the run goes on with this number in a0
abbrev pub answers : State → World → ℕ → Answered
answers s w a0 = Resumed (with_register s register_of.a0 a0) w

abbrev pub refused_unless : Bool → Answered → Answered
refused_unless test answer = if test then answer else Refused

abbrev pub with_words : State → ℕ → List ℕ → State
with_words s at words = record s { memory = with_bytes s.memory at (elf.words words) }

-- the address of the ECALL, which the state is behind
abbrev pub call_at : State → ℕ
call_at s = s.pc - word_size

-- s10 counts the frames that may still be entered
abbrev pub with_depth : State → ℕ → State
with_depth s more = with_register s register_of.s10 ((register s register_of.s10 + more) % 2 ^ 32)

module _ (p : Program) where
  -- ---- objects

  -- an object of so many words, the first its row, is made, or the heap is spent
  abbrev pub allocate : State → World → (row words : ℕ) → List ℕ → (State → World → ℕ → Answered) → Answered
  allocate s w row words rest more =
      if nat_le (w.allocated + words) p.heap
      then more (with_words s (next_object p w) (row ∷ rest)) (record w { allocated = w.allocated + words }) (next_object p w)
      else Ended heap_spent w

  abbrev pub turns_left : State → World → ℕ
  turns_left s w = register s register_of.s11 + w.reserve

  abbrev pub with_thrown : State → World → Named → List ℕ → World
  with_thrown s w class reference =
      record w { thrown = w.thrown ++ record { class = class; reference = reference; turns = turns_left s w; printed = length w.output } ∷ [] }

  -- an error of a class of the boot unit is made, which has no fields
  abbrev pub make_error : State → World → Named → List ℕ → (State → World → ℕ → Answered) → Answered
  make_error s w class reference more =
      allocate s w (row_of p.classes p.main (class_type class)) 1 [] (λ s1 w1 a. more s1 (with_thrown s1 w1 class reference) a)

  -- ---- throws

  -- the handler takes the object, or no frame does; a search that comes to a frame that lies nowhere is a bad call, which leaves what was made
  abbrev pub after_search : State → World → Named → ℕ → End → Unwound → Answered
  after_search s w class a where_lost (handler pc sp depth) =
      Resumed (with_depth (with_register (with_register (record s { pc = pc }) register_of.sp sp) register_of.a0 a) depth) w
  after_search s w class a where_lost top = Ended (uncaught class) w
  after_search s w class a where_lost damaged = Ended where_lost w

  abbrev pub unwind : State → World → Named → ℕ → Answered
  unwind s w class a =
      after_search s w class a lost
      (unwound (mixture_of p.classes) class (spans p.classes p.main) s.memory (call_at s) (register s register_of.sp))

  abbrev pub throw_error : State → World → Named → List ℕ → Answered
  throw_error s w class reference = make_error s w class reference (λ s1 w1 a. unwind s1 w1 class a)

  -- ---- 1, 2, 3: initialisation

  abbrev pub state_of : World → ℕ → ClassState
  state_of w k = option_map_or (λ s. s) (slice_get w.states k) state.Fresh

  abbrev pub with_state : World → ℕ → ClassState → World
  with_state w k new = record w { states = slice_set w.states k new }

  abbrev pub initialiser_of : ℕ → ClassRecord → ℕ
  initialiser_of k c = option_map_or (method_at p.classes p.main k c) (find (λ m. true) c.methods) 0

  -- a class that begins is linked first: its entries get their words
  abbrev pub after_begun : State → World → ℕ → ClassRecord → Begun → Answered
  after_begun s w k c run =
      answers (with_words s (entries_at p.classes p.main k) (entry_words p.classes p.main c))
      (record (with_state w k state.InProgress) { resolved = w.resolved + resolved_count p.classes p.main c })
      (initialiser_of k c)
  after_begun s w k c pass = answers s w 0
  after_begun s w k c (throws e) = throw_error s w (error_class e) c.head.name

  abbrev pub begin_numbered : State → World → ℕ → Answered
  begin_numbered s w k = option_map_or (λ c. after_begun s w k c (begun p.classes c (state_of w k))) (slice_get p.classes k) Refused

  -- an entry that has a word, and stands for a class
  abbrev pub begin_entry : State → World → TableEntry → Answered
  begin_entry s w e =
      refused_unless (not (word_at e.at s.memory == 0)) (option_map_or (λ name. begin_numbered s w (index_of p.classes name)) e.class Refused)

  abbrev pub init_begin : State → World → Answered
  init_begin s w = option_map_or (begin_entry s w) (entry_with p.classes p.main (a0_of s)) Refused

  abbrev pub is_in_progress : ClassState → Bool
  is_in_progress state.InProgress = true
  is_in_progress _ = false

  -- a region of a class that is in progress
  abbrev pub in_progress : World → ℕ → (ℕ → Answered) → Answered
  in_progress w at more =
      option_map_or (λ k. refused_unless (is_in_progress (state_of w k)) (more k)) (region_with p.classes p.main at) Refused

  abbrev pub init_done : State → World → Answered
  init_done s w = in_progress w (a0_of s) (λ k. Resumed s (with_state w k state.Ready))

  abbrev pub is_error : Option PlainTy → Bool
  is_error None = false
  is_error (Some t) = instance (mixture_of p.classes) t (class_type (codes "Error"))

  -- an error is answered as it is; anything else becomes one
  abbrev pub as_error : State → World → Answered
  as_error s w =
      if is_error (object_type p s.memory w (a0_of s))
      then Resumed s w
      else make_error s w (error_class error.ExceptionInInitializer) [] answers

  abbrev pub init_failed : State → World → Answered
  init_failed s w = in_progress w (a1_of s) (λ k. as_error s (with_state w k state.Erroneous))

  -- ---- 4, 5: objects

  abbrev pub new_object : State → World → Option PlainTy → Answered
  new_object s w (Some (class_type name)) =
      refused_unless (not (cannot_be_made (mixture_of p.classes) name))
      (allocate s w (a0_of s) (suc (field_count (mixture_of p.classes) name)) (replicate (field_count (mixture_of p.classes) name) 0) answers)
  new_object s w _ = Refused

  abbrev pub new : State → World → Answered
  new s w = new_object s w (type_with p (a0_of s))

  abbrev pub is_array : Option PlainTy → Bool
  is_array (Some (array_type t)) = true
  is_array _ = false

  -- a length is negative where its highest bit is set
  abbrev pub new_array : State → World → Answered
  new_array s w =
      refused_unless (is_array (type_with p (a0_of s)))
      (if nat_lt (a1_of s) (2 ^ 31)
      then allocate s w (a0_of s) (a1_of s + 2) (a1_of s ∷ replicate (a1_of s) 0) answers
      else throw_error s w (codes "NegativeArraySizeException") [])

  -- ---- 6: throws

  abbrev pub throw_object : State → World → Option PlainTy → Answered
  throw_object s w (Some (class_type name)) =
      refused_unless (instance (mixture_of p.classes) (class_type name) (class_type throwable_name)) (unwind s w name (a0_of s))
  throw_object s w _ = Refused

  -- a number stands for an exception, and any other word for an object
  abbrev pub throw : State → World → Answered
  throw s w = elim (slice_get numbered_errors (a0_of s)) [
    | Some class ↦ throw_error s w class []
    | None ↦ throw_object s w (object_type p s.memory w (a0_of s))
  ]

  -- ---- 7, 8: tests of types

  abbrev pub bit : Bool → ℕ
  bit test = if test then 1 else 0

  abbrev pub cast_to : State → World → Option PlainTy → Option PlainTy → Answered
  cast_to s w (Some t) (Some target) = answers s w (bit (instance (mixture_of p.classes) t target))
  cast_to s w _ _ = Refused

  abbrev pub cast : State → World → Answered
  cast s w = cast_to s w (object_type p s.memory w (a0_of s)) (type_with p (a1_of s))

  -- null may stand in any array of references
  abbrev pub store_in : State → World → PlainTy → Option PlainTy → Answered
  store_in s w component None = refused_unless (a1_of s == 0) (Resumed s w)
  store_in s w component (Some t) =
      if instance (mixture_of p.classes) t component then Resumed s w else throw_error s w (codes "ArrayStoreException") []

  abbrev pub store_check_of : State → World → Option PlainTy → Answered
  store_check_of s w (Some (array_type component)) =
      refused_unless (is_reference component) (store_in s w component (object_type p s.memory w (a1_of s)))
  store_check_of s w _ = Refused

  abbrev pub store_check : State → World → Answered
  store_check s w = store_check_of s w (object_type p s.memory w (a0_of s))

  -- ---- 10: an unresolved entry is used

  abbrev pub is_fresh : ClassState → Bool
  is_fresh state.Fresh = true
  is_fresh _ = false

  -- the start's region is linked before the run, and a class when it begins
  abbrev pub is_linked : World → Region → Bool
  is_linked w of_start = true
  is_linked w (of_class k) = not (is_fresh (state_of w k))

  abbrev pub fail_with : State → World → TableEntry → Result ℕ LinkError → Answered
  fail_with s w e (Ok word) = Refused
  fail_with s w e (Err why) = throw_error s w (error_class why) e.reference

  abbrev pub fail_entry : State → World → TableEntry → Answered
  fail_entry s w e = refused_unless (word_at e.at s.memory == 0 && is_linked w e.region) (fail_with s w e e.found)

  abbrev pub link_failure : State → World → Answered
  link_failure s w = option_map_or (fail_entry s w) (entry_with p.classes p.main (a0_of s)) Refused

-- ---- 11, 12, 13, 17: printing

abbrev pub printed : State → World → List ℕ → Answered
printed s w bytes = Resumed s (record w { output = w.output ++ bytes })

abbrev pub boolean_text : ℕ → List ℕ
boolean_text word = if word == 0 then codes "false" else codes "true"

abbrev pub line_end : ℕ
line_end = 10

-- ---- 14, 15, 16: ends, and turns

-- the turns that s11 counts at once
abbrev pub most_at_once : ℕ
most_at_once = 1048576

abbrev pub taken_at_once : ℕ → ℕ
taken_at_once turns = min turns most_at_once

abbrev pub refilled : State → World → Answered
refilled s w = elim w.reserve [
  | zero ↦ Ended turns_spent w
  | suc n ↦ Resumed (with_register s register_of.s11 (taken_at_once w.reserve)) (record w { reserve = w.reserve - taken_at_once w.reserve })
]

-- no turn is left of those that s11 counts
abbrev pub refill : State → World → Answered
refill s w = refused_unless (register s register_of.s11 == 0) (refilled s w)

abbrev pub stop : State → World → Answered
stop s w = if a0_of s == 0 then refill s w else if a0_of s == 1 then Ended depth_spent w else Refused

-- ---- by number

abbrev pub numbered : Program → ℕ → Option (State → World → Answered)
numbered p n =
    if n == services.init_begin then Some (init_begin p)
    else if n == services.init_done then Some (init_done p)
    else if n == services.init_failed then Some (init_failed p)
    else if n == services.new then Some (new p)
    else if n == services.new_array then Some (new_array p)
    else if n == services.throw then Some (throw p)
    else if n == services.cast then Some (cast p)
    else if n == services.store_check then Some (store_check p)
    else if n == services.link_failure then Some (link_failure p)
    else if n == services.print_int then Some (λ s w. printed s w (signed_decimal (cast_signed w32 (a0_of s))))
    else if n == services.print_boolean then Some (λ s w. printed s w (boolean_text (a0_of s)))
    else if n == services.print_line_end then Some (λ s w. printed s w (line_end ∷ []))
    else if n == services.stop then Some stop
    else if n == services.exit then Some (λ s w. Ended done w)
    else if n == services.refill then Some refill
    else if n == services.print_byte then Some (λ s w. printed s w (a0_of s % 2 ^ 8 ∷ []))
    else None

-- a number that no service has is a bad call
unfoldable pub serve : Program → State → World → Answered
serve p s w = option_map_or (λ service. service s w) (numbered p (register s register_of.a7)) Refused
