-- What an expression is to what may follow it, as the grammar's tests of it see it.
use Rattle.std.specs.Prelude.{Bool, true, false}
use Rattle.bcj_parser_trees.specs.Trees as tree
use Rattle.bcj_parser_trees.specs.Trees.{PlainExpr}
use Rattle.bcj_parser_rules.specs.declared.stop.Site.{Site}
use Rattle.bcj_parser_rules.specs.declared.stop.Site.TheVariants as site
use Rattle.bcj_parser_expression.specs.declared.shape.Shape.{Shape}
use Rattle.bcj_parser_expression.specs.declared.shape.Shape.TheVariants as shape

abbrev pub shape_of : PlainExpr → Shape
shape_of (tree.int_literal at v d) = shape.Primary
shape_of (tree.bool_literal at v) = shape.Primary
shape_of (tree.null_literal at) = shape.Primary
shape_of (tree.this_value at) = shape.Primary
shape_of (tree.simple_name at x) = shape.Name
shape_of (tree.paren at x) = shape.Primary
shape_of (tree.dot at e x) = shape.Place
shape_of (tree.super_field at x) = shape.Place
shape_of (tree.call at x args) = shape.Call
shape_of (tree.dot_call at e x args) = shape.Call
shape_of (tree.super_call at x args) = shape.Call
shape_of (tree.new_object at x args) = shape.Call
shape_of (tree.new_array at b e n) = shape.ArrayCreation
shape_of (tree.element at e i) = shape.Place
shape_of (tree.unary at o x) = shape.Operation
shape_of (tree.step at plus post x) = shape.Change
shape_of (tree.cast at ty x) = shape.Operation
shape_of (tree.binary at o l r) = shape.Operation
shape_of (tree.instance_of at x ty) = shape.TypeTest
shape_of (tree.conditional at c l r) = shape.Operation
shape_of (tree.assign at o l r) = shape.Change

abbrev pub is_place : Shape → Bool
is_place shape.Name = true
is_place shape.Place = true
is_place _ = false

abbrev pub is_array_creation : Shape → Bool
is_array_creation shape.ArrayCreation = true
is_array_creation _ = false

abbrev pub is_statement_expression : Shape → Bool
is_statement_expression shape.Call = true
is_statement_expression shape.Change = true
is_statement_expression _ = false

abbrev pub is_primary : Shape → Bool
is_primary shape.Change = false
is_primary shape.TypeTest = false
is_primary shape.Operation = false
is_primary _ = true

abbrev pub is_type_test : Shape → Bool
is_type_test shape.TypeTest = true
is_type_test _ = false

abbrev pub site_behind : Site → Shape → Site
site_behind w shape.Name = w
site_behind w _ = site.Elsewhere
