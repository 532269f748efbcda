use Rattle.std.proofs.Common.{ap, ◌∙◌}
use Rattle.bcj_parser_expression.specs.function.Shapes as shapes
use Rattle.bcj_parser_expression.proofs.Shapes.{is_place-shape_of}
use Rattle.bcj_parser_expression.proofs.shape.is_place.Goals as goal

pub returns : goal.returns
returns c = c.is_place.ensures ∙ ap shapes.is_place c.shape_of.ensures ∙ is_place-shape_of _
