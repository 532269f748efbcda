use Rattle.std.proofs.Common.{ap, ◌∙◌}
use Rattle.bcj_parser_expression.specs.function.Shapes as shapes
use Rattle.bcj_parser_expression.proofs.Shapes.{is_array_creation-shape_of}
use Rattle.bcj_parser_expression.proofs.shape.is_array_creation.Goals as goal

pub returns : goal.returns
returns c = c.is_array_creation.ensures ∙ ap shapes.is_array_creation c.shape_of.ensures ∙ is_array_creation-shape_of _
