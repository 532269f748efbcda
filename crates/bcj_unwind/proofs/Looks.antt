-- What the search does at one frame.
use Rattle.std.proofs.Common.{◌≡◌, ℕ, suc, List, Option, Some, None, Bool, true, false, cond, map, sym, ◌∙◌, ap}
use Rattle.std.specs.List.{find}
use Rattle.std.specs.Option.{option_map}
use Rattle.bcj_symbolic_trees.specs.declared.class_tree.ClassHead.{ClassHead}
use Rattle.bcj_hier_rules.specs.Heads.{of_heads}
use Rattle.bcj_hier_rules.specs.Shapes.{Named}
use Rattle.bcj_linker_rules.specs.Frames.{MethodSpan, AddressRange, Unwound, handler, top, damaged, is_in, is_held, takes, caller_place, caller_frame, method_with, unwound_within}
use Rattle.bcj_unwind.specs.declared.ranges.MethodRanges.{MethodRanges}
use Rattle.bcj_unwind.specs.declared.ranges.Ranges.{Ranges}
use Rattle.bcj_unwind.specs.declared.search.Frame.{Frame}
use Rattle.bcj_unwind.specs.declared.search.Look.TheVariants.{Start, Nowhere, Target, Caller}
use Rattle.bcj_unwind.specs.Spans.{range_of, span_of, spans_of}
use Rattle.bcj_unwind.specs.Looks.{IsLook}
use Rattle.bcj_unwind.proofs.Firsts.{find_map}

module _ (heads : List ClassHead) (class : Named) (r : Ranges) (memory : List ℕ) (f : Frame) where
  -- the search from a frame with this method on
  abbrev from_range : ℕ → ℕ → MethodSpan → Option AddressRange → Unwound
  from_range n depth s None = unwound_within (of_heads heads) class (spans_of heads r) memory n (caller_place memory f.sp) (caller_frame s f.sp) (suc depth)
  from_range n depth s (Some h) = handler h.target f.sp depth

  abbrev from_held : ℕ → ℕ → MethodSpan → Bool → Unwound
  from_held n depth s held = cond held (from_range n depth s (find (takes (of_heads heads) class f.pc) s.ranges)) damaged

  abbrev from_method : ℕ → ℕ → Option MethodSpan → Unwound
  from_method n depth None = damaged
  from_method n depth (Some s) = from_held n depth s (is_held memory f.sp)

  abbrev from_frame : ℕ → ℕ → Bool → Unwound
  from_frame n depth starts = cond starts top (from_method n depth (method_with (spans_of heads r) f.pc))

  -- a range that takes the throw goes on at its target
  by_target : (n depth t : ℕ) (s : MethodSpan) (o : Option AddressRange) → Some t ≡ option_map (λ h. h.target) o → from_range n depth s o ≡ handler t f.sp depth
  by_target n depth t s None e = cc
  by_target n depth t s (Some h) e = let same : t ≡ h.target = cc in ap (λ x. handler x f.sp depth) (sym same)

  -- where none does, the frame that called goes on
  by_none : (n depth : ℕ) (g : Frame) (s : MethodSpan) (o : Option AddressRange) → None ≡ option_map (λ h. h.target) o → g.pc ≡ caller_place memory f.sp → g.sp ≡ caller_frame s f.sp
      → from_range n depth s o ≡ unwound_within (of_heads heads) class (spans_of heads r) memory n g.pc g.sp (suc depth)
  by_none n depth g s None e pc sp =
      ap (λ x. unwound_within (of_heads heads) class (spans_of heads r) memory n x (caller_frame s f.sp) (suc depth)) (sym pc)
      ∙ ap (λ x. unwound_within (of_heads heads) class (spans_of heads r) memory n g.pc x (suc depth)) (sym sp)
  by_none n depth g s (Some h) e pc sp = cc

  -- the start code takes no throw
  pub starts : is_in r.start r.«end» f.pc ≡ true → IsLook (of_heads heads) class (spans_of heads r) memory f Start
  starts inside n depth = ap (from_frame n depth) inside

  -- the method of the place
  spans_found : (o : Option MethodRanges) → o ≡ find (λ m. is_in m.first m.past f.pc) r.methods → method_with (spans_of heads r) f.pc ≡ option_map (span_of heads) o
  spans_found o e = find_map (span_of heads) (λ m. is_in m.first m.past f.pc) r.methods ∙ ap (option_map (span_of heads)) (sym e)

  module _ (outside : is_in r.start r.«end» f.pc ≡ false) where
    to_method : (o : Option MethodRanges) → o ≡ find (λ m. is_in m.first m.past f.pc) r.methods → (n depth : ℕ)
        → unwound_within (of_heads heads) class (spans_of heads r) memory (suc n) f.pc f.sp depth ≡ from_method n depth (option_map (span_of heads) o)
    to_method o e n depth = ap (from_frame n depth) outside ∙ ap (from_method n depth) (spans_found o e)

    -- code of no method
    pub nowhere : None ≡ find (λ m. is_in m.first m.past f.pc) r.methods → IsLook (of_heads heads) class (spans_of heads r) memory f Nowhere
    nowhere e n depth = to_method None e n depth

    module _ (m : MethodRanges) (there : Some m ≡ find (λ m. is_in m.first m.past f.pc) r.methods) where
      -- a frame outside the memory
      pub lost : is_held memory f.sp ≡ false → IsLook (of_heads heads) class (spans_of heads r) memory f Nowhere
      lost not_held n depth = to_method (Some m) there n depth ∙ ap (from_held n depth (span_of heads m)) not_held

      to_range : is_held memory f.sp ≡ true → (n depth : ℕ)
          → unwound_within (of_heads heads) class (spans_of heads r) memory (suc n) f.pc f.sp depth ≡ from_range n depth (span_of heads m) (find (takes (of_heads heads) class f.pc) (map (range_of heads) m.ranges))
      to_range held n depth = to_method (Some m) there n depth ∙ ap (from_held n depth (span_of heads m)) held

      -- a range takes the throw
      pub handled : (t : ℕ) → is_held memory f.sp ≡ true → Some t ≡ option_map (λ h. h.target) (find (takes (of_heads heads) class f.pc) (map (range_of heads) m.ranges))
          → IsLook (of_heads heads) class (spans_of heads r) memory f (Target t)
      handled t held taken n depth = to_range held n depth ∙ by_target n depth t (span_of heads m) (find (takes (of_heads heads) class f.pc) (map (range_of heads) m.ranges)) taken

      -- and where none does, it is the caller's
      pub left : (g : Frame) → is_held memory f.sp ≡ true → None ≡ option_map (λ h. h.target) (find (takes (of_heads heads) class f.pc) (map (range_of heads) m.ranges))
          → g.pc ≡ caller_place memory f.sp → g.sp ≡ caller_frame (span_of heads m) f.sp → IsLook (of_heads heads) class (spans_of heads r) memory f (Caller g)
      left g held none at to n depth = to_range held n depth ∙ by_none n depth g (span_of heads m) (find (takes (of_heads heads) class f.pc) (map (range_of heads) m.ranges)) none at to
