use Rattle.std.proofs.Common.{refl, map}
use Rattle.bcj_symbolic_trees.specs.declared.class_tree.SymMethod.{SymMethod}
use Rattle.bcj_symbolic_trees.specs.Units.{method_of}
use Rattle.bcj_symbolic_measure.specs.Bodies.{method_frame_size, methods_frame_size}
use Rattle.bcj_symbolic_measure.proofs.TotalLemmas.{capped-none, capped-result}
use Rattle.bcj_symbolic_measure.proofs.StepLemmas.{depth_more, depth_done, depth_begin}
use Rattle.bcj_symbolic_measure.proofs.body.methods_frame.Goals as goal

pub loop-method-init : goal.loop-method-init
loop-method-init c = record { fits = capped-none; sums = depth_begin _ }

pub loop-method-preserved : goal.loop-method-preserved
loop-method-preserved c =
    record {
      fits = capped-result _ _ c.larger-largest.ensures;
      sums = depth_more (λ l. methods_frame_size (map method_of l)) (λ (x : SymMethod). method_frame_size (method_of x)) (λ x l. refl) _ _ _ _ _ _ _ c.loop-method-test.true c.method-item.is c.method_frame.ensures c.larger-largest.ensures c.loop-method.invariant.sums;
    }

pub returns : goal.returns
returns c = depth_done (λ l. methods_frame_size (map method_of l)) refl _ _ _ _ c.loop-method-test.false c.loop-method.invariant.fits c.loop-method.invariant.sums
