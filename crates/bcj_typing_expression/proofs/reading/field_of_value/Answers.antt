use Rattle.std.proofs.Common.{◌∙◌, ap, sym}
use Rattle.bcj_typing_expression.specs.Members.{member_form}
use Rattle.bcj_typing_expression.proofs.Arms.{array_length_types}
use Rattle.bcj_typing_expression.proofs.reading.field_of_value.Goals as goal

pub returns-in-Length : goal.returns-in-Length
returns-in-Length c e d h = array_length_types _ _ _ _ _ _ _ d h (sym c.in_ok-member_of.ensures ∙ ap member_form c.in-Length.is) (record { judges = c.array_length.ensures })

pub returns-in-OfClass : goal.returns-in-OfClass
returns-in-OfClass c e d h = c.field_of_class.ensures e d h (sym c.in_ok-member_of.ensures ∙ ap member_form c.in-OfClass.is)
