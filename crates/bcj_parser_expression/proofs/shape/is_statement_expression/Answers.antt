use Rattle.std.proofs.Common.{ap, ◌∙◌}
use Rattle.bcj_parser_expression.specs.function.Shapes as shapes
use Rattle.bcj_parser_expression.proofs.Shapes.{is_statement_expression-shape_of}
use Rattle.bcj_parser_expression.proofs.shape.is_statement_expression.Goals as goal

pub returns : goal.returns
returns c = c.is_statement_expression.ensures ∙ ap shapes.is_statement_expression c.shape_of.ensures ∙ is_statement_expression-shape_of _
