-- Numbers that stand at the last value of their type pass the same limits.
use Rattle.std.proofs.Common.{◌≡◌, sym, ℕ, ◌<◌, ◌≤◌, Some, arith}
use Rattle.std.proofs.lemmas.Bool.{cond_below, cond_above}
use Rattle.bcj_symbolic_trees.specs.Units.{PlainUnit}
use Rattle.bcj_symbolic_measure.specs.Measures.{largest_frame, largest_method}
use Rattle.bcj_symbolic_measure.specs.Objects.{object_size}
use Rattle.bcj_symbolic_measure.specs.Totals.{narrow, capped}
use Rattle.bcj_lower_rules.specs.Bodies.{max_frame}
use Rattle.bcj_asm.specs.Assembly.{max_words}
use Rattle.bcj_object_rules.specs.declared.limit.ObjectLimit.TheVariants as limit
use Rattle.bcj_object_rules.specs.Sizes.{max_object, IsSmall, excess}

narrow-past : (l n : ℕ) → l < narrow n → l < n
narrow-past l n h = omega (arith, h)

narrow-kept : (l n : ℕ) → l < 4294967295 → narrow n ≤ l → n ≤ l
narrow-kept l n room h = omega (arith, room, h)

capped-past : (n : ℕ) → max_object < capped n → max_object < n
unfolding capped
capped-past n h = omega (arith, h)

capped-kept : (n : ℕ) → capped n ≤ max_object → n ≤ max_object
unfolding capped
capped-kept n h = omega (arith, h)

module _ (u : PlainUnit) where
  -- the frame passes its limit
  pub frame-excess : max_frame < narrow (largest_frame u) → excess u ≡ Some limit.Frame
  unfolding excess
  frame-excess h = sym (cond_below max_frame (largest_frame u) _ _ (narrow-past max_frame (largest_frame u) h))

  -- the frame doesn't, and the method does
  pub method-excess : narrow (largest_frame u) ≤ max_frame → max_words < narrow (largest_method u) → excess u ≡ Some limit.Method
  unfolding excess
  method-excess f h =
      sym (cond_above max_frame (largest_frame u) _ _ _ (narrow-kept max_frame (largest_frame u) (omega arith) f)
      (cond_below max_words (largest_method u) _ _ (narrow-past max_words (largest_method u) h)))

  -- the object alone does
  pub object-excess : narrow (largest_frame u) ≤ max_frame → narrow (largest_method u) ≤ max_words → max_object < capped (object_size u) → excess u ≡ Some limit.Object
  unfolding excess
  object-excess f m h =
      sym (cond_above max_frame (largest_frame u) _ _ _ (narrow-kept max_frame (largest_frame u) (omega arith) f)
      (cond_above max_words (largest_method u) _ _ _ (narrow-kept max_words (largest_method u) (omega arith) m)
      (cond_below max_object (object_size u) _ _ (capped-past (object_size u) h))))

  -- none does
  pub small : narrow (largest_frame u) ≤ max_frame → narrow (largest_method u) ≤ max_words → capped (object_size u) ≤ max_object → IsSmall u
  small f m h = record {
    frame = narrow-kept max_frame (largest_frame u) (omega arith) f;
    method = narrow-kept max_words (largest_method u) (omega arith) m;
    object = capped-kept (object_size u) h;
  }
