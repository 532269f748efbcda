use Rattle.std.proofs.Common.{ap, ◌∙◌}
use Rattle.bcj_parser_expression.specs.function.Shapes as shapes
use Rattle.bcj_parser_expression.proofs.Shapes.{is_type_test-shape_of}
use Rattle.bcj_parser_expression.proofs.shape.is_type_test.Goals as goal

pub returns : goal.returns
returns c = c.is_type_test.ensures ∙ ap shapes.is_type_test c.shape_of.ensures ∙ is_type_test-shape_of _
