-- What one frame does to the search.
use Rattle.std.specs.Prelude.{◌≡◌, ℕ, suc, List}
use Rattle.bcj_hier_rules.specs.Shapes.{Named, Mixture}
use Rattle.bcj_linker_rules.specs.Frames.{Spans, handler, top, damaged, unwound_within}
use Rattle.bcj_unwind.specs.declared.search.Frame.{Frame}
use Rattle.bcj_unwind.specs.declared.search.Look.{Look}
use Rattle.bcj_unwind.specs.declared.search.Look.TheVariants.{Start, Nowhere, Target, Caller}

module _ (m : Mixture) (class : Named) (spans : Spans) (memory : List ℕ) (f : Frame) where
  abbrev pub IsLook : Look → Type 0
  IsLook Start = (n depth : ℕ) → unwound_within m class spans memory (suc n) f.pc f.sp depth ≡ top
  IsLook Nowhere = (n depth : ℕ) → unwound_within m class spans memory (suc n) f.pc f.sp depth ≡ damaged
  IsLook (Target t) = (n depth : ℕ) → unwound_within m class spans memory (suc n) f.pc f.sp depth ≡ handler t f.sp depth
  IsLook (Caller g) = (n depth : ℕ) → unwound_within m class spans memory (suc n) f.pc f.sp depth ≡ unwound_within m class spans memory n g.pc g.sp (suc depth)
