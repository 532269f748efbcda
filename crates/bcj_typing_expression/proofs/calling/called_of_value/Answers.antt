use Rattle.std.proofs.Common.{◌∙◌, sym}
use Rattle.bcj_typing_expression.proofs.calling.called_of_value.Goals as goal

pub returns-in-Some : goal.returns-in-Some
returns-in-Some c e es d h hs = c.called_of_class.ensures e es d h hs (sym c.in_ok-class_of_value.ensures ∙ c.in-Some.is)
