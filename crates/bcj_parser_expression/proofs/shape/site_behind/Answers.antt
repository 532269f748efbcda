use Rattle.std.proofs.Common.{ap, ◌∙◌}
use Rattle.bcj_parser_expression.specs.function.Shapes as shapes
use Rattle.bcj_parser_expression.proofs.Shapes.{site_behind-shape_of}
use Rattle.bcj_parser_expression.proofs.shape.site_behind.Goals as goal

pub returns : goal.returns
returns c = c.site_behind.ensures ∙ ap (shapes.site_behind c.args.site) c.shape_of.ensures ∙ site_behind-shape_of c.args.site _
