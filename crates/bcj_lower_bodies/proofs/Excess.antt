-- The sizes of bodies stand for the bodies themselves where limits are tested.
use Rattle.std.proofs.Common.{◌≡◌, refl, ap, sym, ◌∙◌, ℕ, nat_lt, Bool, true, false, List, [], ◌∷◌, map, Option, Some, None, if◌then◌else◌, arith}
use Rattle.bcj_asm.specs.Assembly.{max_words}
use Rattle.bcj_symbolic_trees.specs.Units.{PlainMethod, PlainClass}
use Rattle.bcj_symbolic_check.specs.Classes.{is_abstract}
use Rattle.bcj_symbolic_measure.specs.declared.measured.BodySize.{BodySize}
use Rattle.bcj_symbolic_measure.specs.Totals.{narrow}
use Rattle.bcj_symbolic_measure.specs.Scheme.{Piece}
use Rattle.bcj_symbolic_measure.specs.Bodies.{words, init_pieces, method_pieces, init_frame_size, method_frame_size}
use Rattle.bcj_symbolic_measure.specs.Measures.{init_size, method_size, method_sizes, body_sizes}
use Rattle.bcj_lower_rules.specs.declared.limit.Limit.{Limit}
use Rattle.bcj_lower_rules.specs.declared.limit.Limit.TheVariants as limit
use Rattle.bcj_lower_rules.specs.Lines.{Line}
use Rattle.bcj_lower_rules.specs.Ranges.{LabelRange, stmts_ranges}
use Rattle.bcj_lower_rules.specs.Bodies.{without_code, with_code, max_frame, or_else_excess, excess, first_excess, long_words, method_lines, init_lines, method_body, init_body, method_bodies, bodies_of}
use Rattle.bcj_lower_rules.specs.Laws.{LongIsMeasured}
use Rattle.bcj_lower_bodies.specs.function.Sizes.{size_excess, sizes_excess, frames_of, class_frames}

-- ---- the last value of a u32 is past each limit

frame_under : (n : ℕ) → nat_lt max_frame (narrow n) ≡ nat_lt max_frame n
frame_under n = grind arith

words_under : (n : ℕ) → nat_lt max_words (narrow n) ≡ nat_lt max_words n
words_under n = grind arith

-- the tests of a frame and of words
tested : (frame words : Bool) → Option Limit
tested frame words = if frame then Some limit.Frame else if words then Some limit.Method else None

sized-like : (frame words long : ℕ) → long ≡ words
    → tested (nat_lt max_frame (narrow frame)) (nat_lt max_words (narrow words)) ≡ tested (nat_lt max_frame frame) (nat_lt max_words long)
sized-like frame words long e =
    λ i. tested (frame_under frame i) ((words_under words ∙ ap (nat_lt max_words) (sym e)) i)

-- a method that is abstract has no code, and no words of a frame
method_sized : (abstract : Bool) (frame : ℕ) (pieces : List Piece) (lines : List Line) (ranges : List LabelRange)
    → (abstract ≡ false → long_words lines ≡ words (if abstract then [] else pieces))
    → size_excess (record { frame = narrow (if abstract then 0 else frame); words = narrow (words (if abstract then [] else pieces)) })
    ≡ excess (if abstract then without_code else with_code (if abstract then 0 else frame) lines ranges)
unfolding excess tested
method_sized true frame pieces lines ranges h = refl
method_sized false frame pieces lines ranges h = sized-like frame (words pieces) (long_words lines) (h refl)

module _ (law : LongIsMeasured) (c : PlainClass) where
  method-excess : (m : PlainMethod) → size_excess (method_size c m) ≡ excess (method_body c m)
  unfolding method_body
  method-excess m = method_sized (is_abstract m.kind) _ _ (method_lines c m) (stmts_ranges 0 m.body) (law.methods c m)

  init-excess : size_excess (init_size c) ≡ excess (init_body c)
  unfolding init_body excess tested
  init-excess = sized-like (init_frame_size c) (words (init_pieces c)) (long_words (init_lines c)) (law.initialiser c)

  methods-excess : (ms : List PlainMethod) → sizes_excess (method_sizes c ms) ≡ first_excess (method_bodies c ms)
  methods-excess [] = refl
  methods-excess (m ∷ rest) = λ i. or_else_excess (method-excess m i) (methods-excess rest i)

  pub class-excess : sizes_excess (body_sizes c) ≡ first_excess (bodies_of c)
  class-excess = λ i. or_else_excess (init-excess i) (methods-excess c.methods i)

-- ---- within the limits the sizes are the numbers themselves

narrow-within : (n : ℕ) → nat_lt max_frame (narrow n) ≡ false → narrow n ≡ n
narrow-within n h = grind arith

size-within : (s : BodySize) (b d : Bool) → nat_lt max_frame s.frame ≡ b → nat_lt max_words s.words ≡ d → tested b d ≡ None → nat_lt max_frame s.frame ≡ false
unfolding tested
size-within s true d e f h = cc
size-within s false d e f h = e

excess-first : (a b : Option Limit) → or_else_excess a b ≡ None → a ≡ None
excess-first None b h = refl
excess-first (Some l) b h = h

excess-second : (a b : Option Limit) → or_else_excess a b ≡ None → b ≡ None
excess-second None b h = h
excess-second (Some l) b h = cc

frame-is : (frame words : ℕ) → size_excess (record { frame = narrow frame; words = narrow words }) ≡ None → narrow frame ≡ frame
unfolding tested
frame-is frame words h = narrow-within frame (size-within (record { frame = narrow frame; words = narrow words }) _ _ refl refl h)

methods-framed : (c : PlainClass) (ms : List PlainMethod) → sizes_excess (method_sizes c ms) ≡ None → frames_of (method_sizes c ms) ≡ map method_frame_size ms
methods-framed c [] h = refl
methods-framed c (m ∷ rest) h =
    λ i. frame-is (method_frame_size m) (words (method_pieces c m)) (excess-first _ (sizes_excess (method_sizes c rest)) h) i
    ∷ methods-framed c rest (excess-second (size_excess (method_size c m)) _ h) i

pub class-framed : (c : PlainClass) → sizes_excess (body_sizes c) ≡ None → frames_of (body_sizes c) ≡ class_frames c
class-framed c h =
    λ i. frame-is (init_frame_size c) (words (init_pieces c)) (excess-first _ (sizes_excess (method_sizes c c.methods)) h) i
    ∷ methods-framed c c.methods (excess-second (size_excess (init_size c)) _ h) i
