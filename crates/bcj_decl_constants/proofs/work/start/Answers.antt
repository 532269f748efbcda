use Rattle.std.proofs.Common.{◌++◌, ◌∷◌, ◌∙◌, [], None, ap, replicate}
use Rattle.bcj_decl_constants.proofs.Beginning.{replicate_more}
use Rattle.bcj_decl_constants.proofs.work.start.Goals as goal

pub loop-number-preserved : goal.loop-number-preserved
loop-number-preserved c = (
  c.in_ok-push.ensures.items ∙ (ap (λ l. l ++ None ∷ []) c.loop-number.invariant.0 ∙ replicate_more None c.loop-number.number),
  c.in_ok-push-2.ensures.items ∙ (ap (λ l. l ++ c.new.result ∷ []) c.loop-number.invariant.1 ∙ (ap (λ x. replicate c.loop-number.number [] ++ x ∷ []) c.new.ensures ∙ replicate_more [] c.loop-number.number)),
)
