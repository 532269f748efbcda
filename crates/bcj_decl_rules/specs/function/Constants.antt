-- What an expression is worth where the values of constant fields are known, as a function.
use Rattle.std.specs.Prelude.{neg_ℤ, pos, Bool, false, ◌&&◌, ◌==◌, List, Option, None, Some, option_map, if◌then◌else◌}
use Rattle.std.specs.Option.{option_and_then, is_none}
use Rattle.bcj_parser_trees.specs.declared.expression.UnaryOp.{UnaryOp}
use Rattle.bcj_parser_trees.specs.declared.expression.UnaryOp.TheVariants as unop
use Rattle.bcj_parser_trees.specs.Trees.{PlainExpr, int_literal, bool_literal, simple_name, paren, dot, unary, cast, binary, conditional, PlainOption, absent, present, PlainUnit}
use Rattle.bcj_decl_rules.specs.declared.value.Value.{Value}
use Rattle.bcj_decl_rules.specs.declared.value.Value.TheVariants as value
use Rattle.bcj_decl_rules.specs.World.{Named, Field, World, world_of, type_of, initialiser_of}
use Rattle.bcj_decl_rules.specs.Members.{field_of}
use Rattle.bcj_decl_rules.specs.Constants.{least_size, literal_value, unary_value, binary_value, chosen_value, of_type}

-- the values of constant fields, as far as they are known
abbrev pub Known : Type 0
Known = Field → Option Value

abbrev pub is_least_literal : PlainExpr → Bool
is_least_literal (int_literal at n decimal) = decimal && n == least_size
is_least_literal _ = false

-- `-` right in front of the least int's digits
abbrev pub spells_least : UnaryOp → PlainExpr → Bool
spells_least unop.Minus e = is_least_literal e
spells_least _ e = false

abbrev pub least_int : Value
least_int = value.Int (neg_ℤ (pos least_size))

abbrev pub signed_value : UnaryOp → PlainExpr → Option Value → Option Value
signed_value o e v = if spells_least o e then Some least_int else option_and_then (unary_value o) v

abbrev pub value_of_field : Known → Option Field → Option Value
value_of_field known f = option_and_then known f

-- a name before a dot, where it is that of a type
abbrev pub qualified_value : World → Known → Named → PlainExpr → Named → Option Value
qualified_value w known from (simple_name at x) name = if is_none (field_of w from x) then value_of_field known (field_of w x name) else None
qualified_value w known from _ name = None

abbrev pub value_in : World → Known → Named → PlainExpr → Option Value
value_in w known from (int_literal at n decimal) = option_map value.Int (literal_value n decimal)
value_in w known from (bool_literal at b) = Some (value.Bool b)
value_in w known from (paren at e) = value_in w known from e
value_in w known from (unary at o e) = signed_value o e (value_in w known from e)
value_in w known from (binary at o a b) = option_and_then (λ x. option_and_then (binary_value o x) (value_in w known from b)) (value_in w known from a)
value_in w known from (conditional at c a b) =
    option_and_then
    (λ t. option_and_then (λ x. option_and_then (chosen_value t x) (value_in w known from b)) (value_in w known from a))
    (value_in w known from c)
value_in w known from (cast at ty e) = option_and_then (of_type (type_of ty)) (value_in w known from e)
value_in w known from (simple_name at x) = value_of_field known (field_of w from x)
value_in w known from (dot at e name) = qualified_value w known from e name
value_in w known from _ = None

abbrev pub initial_value : World → Known → Field → PlainOption → Option Value
initial_value w known f absent = None
initial_value w known f (present e) = option_and_then (of_type f.ty) (value_in w known f.class e)

-- the value that a field has, by the values that are known
abbrev pub field_value : List PlainUnit → Known → Field → Option Value
field_value units known f = if f.is_final then initial_value (world_of units) known f (initialiser_of units f) else None
