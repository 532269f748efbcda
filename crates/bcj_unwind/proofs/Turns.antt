-- The frames that are left to the search after so many.
use Rattle.std.proofs.Common.{◌≡◌, ℕ, zero, suc, ◌+◌, ◌-◌, ◌≤◌, List, length, sym, ◌∙◌, arith, add-one}
use Rattle.bcj_hier_rules.specs.Shapes.{Named, Mixture}
use Rattle.bcj_linker_rules.specs.Frames.{Spans, Unwound, damaged, unwound_within}
use Rattle.bcj_unwind.specs.declared.search.Frame.{Frame}
use Rattle.bcj_unwind.specs.declared.search.Look.TheVariants.{Caller}
use Rattle.bcj_unwind.specs.Looks.{IsLook}

module _ (m : Mixture) (class : Named) (spans : Spans) (memory : List ℕ) (f : Frame) (depth : ℕ) (result : Unwound) where
  -- the search from this frame with all turns that are left comes to the result
  abbrev pub LeadsTo : Type 0
  LeadsTo = (n : ℕ) → n + depth ≡ suc (length memory) → unwound_within m class spans memory n f.pc f.sp depth ≡ result

  -- a frame that ends the search has the result
  pub ends_here : (u : ℕ → Unwound) → LeadsTo → depth ≤ length memory → ((n d : ℕ) → unwound_within m class spans memory (suc n) f.pc f.sp d ≡ u d) → u depth ≡ result
  ends_here u leads fits look = sym (look (length memory - depth) depth) ∙ leads (suc (length memory - depth)) (omega arith)

  -- the search from the frame that called goes on with one turn less
  pub goes_on : (g : Frame) → LeadsTo → IsLook m class spans memory f (Caller g) → (n : ℕ) → n + (depth + 1) ≡ suc (length memory) → unwound_within m class spans memory n g.pc g.sp (depth + 1) ≡ result
  goes_on g leads look n e = rw add-one (sym (look n depth) ∙ leads (suc n) (omega arith))

  -- there is none after the last
  pub runs_out : (g : Frame) → LeadsTo → IsLook m class spans memory f (Caller g) → depth ≡ length memory → damaged ≡ result
  runs_out g leads look last = sym (look zero depth) ∙ leads (suc zero) (omega arith)
