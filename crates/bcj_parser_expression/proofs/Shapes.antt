-- The tests of an expression, by its shape.
use Rattle.std.proofs.Common.{◌≡◌, refl}
use Rattle.bcj_parser_trees.specs.Trees as tree
use Rattle.bcj_parser_trees.specs.Trees.{PlainExpr}
use Rattle.bcj_parser_rules.specs.declared.stop.Site.{Site}
use Rattle.bcj_parser_rules.specs.Grammar as grammar
use Rattle.bcj_parser_rules.specs.function.Expressions as rule
use Rattle.bcj_parser_expression.specs.function.Shapes as shapes
use Rattle.bcj_parser_expression.specs.function.Shapes.{shape_of}

pub is_place-shape_of : (x : PlainExpr) → shapes.is_place (shape_of x) ≡ grammar.is_place x
is_place-shape_of (tree.simple_name at x) = refl
is_place-shape_of _ = refl

pub is_array_creation-shape_of : (x : PlainExpr) → shapes.is_array_creation (shape_of x) ≡ grammar.is_array_creation x
is_array_creation-shape_of (tree.simple_name at x) = refl
is_array_creation-shape_of _ = refl

pub is_statement_expression-shape_of : (x : PlainExpr) → shapes.is_statement_expression (shape_of x) ≡ grammar.is_statement_expression x
is_statement_expression-shape_of (tree.simple_name at x) = refl
is_statement_expression-shape_of _ = refl

pub is_primary-shape_of : (x : PlainExpr) → shapes.is_primary (shape_of x) ≡ rule.is_primary x
is_primary-shape_of (tree.simple_name at x) = refl
is_primary-shape_of _ = refl

pub is_type_test-shape_of : (x : PlainExpr) → shapes.is_type_test (shape_of x) ≡ rule.is_type_test x
is_type_test-shape_of (tree.simple_name at x) = refl
is_type_test-shape_of _ = refl

pub site_behind-shape_of : (w : Site) (x : PlainExpr) → shapes.site_behind w (shape_of x) ≡ rule.site_behind w x
site_behind-shape_of w (tree.simple_name at x) = refl
site_behind-shape_of w _ = refl
