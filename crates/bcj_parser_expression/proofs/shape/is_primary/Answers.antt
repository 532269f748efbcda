use Rattle.std.proofs.Common.{ap, ◌∙◌}
use Rattle.bcj_parser_expression.specs.function.Shapes as shapes
use Rattle.bcj_parser_expression.proofs.Shapes.{is_primary-shape_of}
use Rattle.bcj_parser_expression.proofs.shape.is_primary.Goals as goal

pub returns : goal.returns
returns c = c.is_primary.ensures ∙ ap shapes.is_primary c.shape_of.ensures ∙ is_primary-shape_of _
