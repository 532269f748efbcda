use Rattle.bcj_typing_expression.proofs.Arms.{cast_types}
use Rattle.bcj_typing_expression.proofs.operating.cast_to.Goals as goal

pub returns : goal.returns
returns c e h = cast_types _ _ _ _ _ _ _ _ _ _ h c.is_known-is_known.ensures c.cast_form-form.ensures c.in_ok-to.ensures (record { judges = c.cast.ensures })
