-- What the operators take and give (JLS 15.15 to 15.24, 15.26.2), and the nodes that they have.
use Rattle.std.specs.Prelude.{Bool, true, false, ◌&&◌, ◌||◌, Option, None, Some, if◌then◌else◌}
use Rattle.std.specs.Option.{is_some, option_map_or}
use Rattle.bcj_parser_trees.specs.declared.expression.UnaryOp.{UnaryOp}
use Rattle.bcj_parser_trees.specs.declared.expression.UnaryOp.TheVariants as unop
use Rattle.bcj_parser_trees.specs.declared.expression.BinOp.{BinOp}
use Rattle.bcj_parser_trees.specs.declared.expression.BinOp.TheVariants as op
use Rattle.bcj_symbolic_trees.specs.declared.expression.UnaryOp.TheVariants as node_unop
use Rattle.bcj_symbolic_trees.specs.declared.expression.BinaryOp.{BinaryOp}
use Rattle.bcj_symbolic_trees.specs.declared.expression.BinaryOp.TheVariants as node_op
use Rattle.bcj_symbolic_trees.specs.Trees as tree
use Rattle.bcj_symbolic_trees.specs.Types.{PlainTy, int_type, bool_type, void_type, PlainArg, given, null_arg}
use Rattle.bcj_decl_rules.specs.Subtypes.{is_reference}

-- ---- types of values

abbrev pub is_int : PlainArg → Bool
is_int (given int_type) = true
is_int _ = false

abbrev pub is_bool : PlainArg → Bool
is_bool (given bool_type) = true
is_bool _ = false

-- a class, an array or null
abbrev pub is_object : PlainArg → Bool
is_object (given t) = is_reference t
is_object null_arg = true

-- anything but a call without result
abbrev pub is_value : PlainArg → Bool
is_value (given void_type) = false
is_value _ = true

-- ---- unary operators (JLS 15.15)

abbrev pub unary_takes : UnaryOp → PlainArg → Bool
unary_takes unop.Not t = is_bool t
unary_takes _ t = is_int t

abbrev pub unary_gives : UnaryOp → PlainTy
unary_gives unop.Not = bool_type
unary_gives _ = int_type

-- `+` has no node
abbrev pub unary_tree : UnaryOp → tree.PlainExpr → tree.PlainExpr
unary_tree unop.Plus a = a
unary_tree unop.Minus a = tree.unary node_unop.Minus a
unary_tree unop.Flip a = tree.unary node_unop.Flip a
unary_tree unop.Not a = tree.unary node_unop.Not a

-- ---- binary operators

abbrev pub two_ints : PlainArg → PlainArg → PlainTy → Option PlainTy
two_ints s t r = if is_int s && is_int t then Some r else None

abbrev pub two_truths : PlainArg → PlainArg → Option PlainTy
two_truths s t = if is_bool s && is_bool t then Some bool_type else None

-- two numbers, or two truth values (JLS 15.22)
abbrev pub two_bits : PlainArg → PlainArg → Option PlainTy
two_bits s t = if is_int s && is_int t then Some int_type else two_truths s t

-- two of a kind (JLS 15.21)
abbrev pub two_alike : PlainArg → PlainArg → Option PlainTy
two_alike s t = if (is_int s && is_int t) || ((is_bool s && is_bool t) || (is_object s && is_object t)) then Some bool_type else None

-- the type of the result, where the operator takes operands of these types
abbrev pub binary_gives : BinOp → PlainArg → PlainArg → Option PlainTy
binary_gives op.OrElse s t = two_truths s t
binary_gives op.AndAlso s t = two_truths s t
binary_gives op.Or s t = two_bits s t
binary_gives op.Xor s t = two_bits s t
binary_gives op.And s t = two_bits s t
binary_gives op.Eq s t = two_alike s t
binary_gives op.Ne s t = two_alike s t
binary_gives op.Lt s t = two_ints s t bool_type
binary_gives op.Gt s t = two_ints s t bool_type
binary_gives op.Le s t = two_ints s t bool_type
binary_gives op.Ge s t = two_ints s t bool_type
binary_gives op.Shl s t = two_ints s t int_type
binary_gives op.Shr s t = two_ints s t int_type
binary_gives op.Ushr s t = two_ints s t int_type
binary_gives op.Add s t = two_ints s t int_type
binary_gives op.Sub s t = two_ints s t int_type
binary_gives op.Mul s t = two_ints s t int_type
binary_gives op.Div s t = two_ints s t int_type
binary_gives op.Rem s t = two_ints s t int_type

abbrev pub type_or_void : Option PlainTy → PlainTy
type_or_void None = void_type
type_or_void (Some t) = t

abbrev pub binary_takes : BinOp → PlainArg → PlainArg → Bool
binary_takes o s t = is_some (binary_gives o s t)

abbrev pub is_equality : BinOp → Bool
is_equality op.Eq = true
is_equality op.Ne = true
is_equality _ = false

-- references are compared, whose types must go together (JLS 15.21.3)
abbrev pub compares_objects : BinOp → PlainArg → PlainArg → Bool
compares_objects o s t = is_equality o && (is_object s && is_object t)

-- the operator of a node; `||` and `&&` have nodes of their own
abbrev pub node_operator : BinOp → Option BinaryOp
node_operator op.OrElse = None
node_operator op.AndAlso = None
node_operator op.Or = Some node_op.Or
node_operator op.Xor = Some node_op.Xor
node_operator op.And = Some node_op.And
node_operator op.Eq = Some node_op.Eq
node_operator op.Ne = Some node_op.Ne
node_operator op.Lt = Some node_op.Lt
node_operator op.Gt = Some node_op.Gt
node_operator op.Le = Some node_op.Le
node_operator op.Ge = Some node_op.Ge
node_operator op.Shl = Some node_op.Shl
node_operator op.Shr = Some node_op.Shr
node_operator op.Ushr = Some node_op.Ushr
node_operator op.Add = Some node_op.Add
node_operator op.Sub = Some node_op.Sub
node_operator op.Mul = Some node_op.Mul
node_operator op.Div = Some node_op.Div
node_operator op.Rem = Some node_op.Rem

abbrev pub logic_tree : BinOp → tree.PlainExpr → tree.PlainExpr → tree.PlainExpr
logic_tree op.OrElse a b = tree.or_else a b
logic_tree _ a b = tree.and_also a b

abbrev pub binary_tree : BinOp → tree.PlainExpr → tree.PlainExpr → tree.PlainExpr
binary_tree o a b = option_map_or (λ n. tree.binary n a b) (node_operator o) (logic_tree o a b)

-- ---- compound assignment (JLS 15.26.2)

abbrev pub is_same_primitive : PlainTy → Option PlainTy → Bool
is_same_primitive int_type (Some int_type) = true
is_same_primitive bool_type (Some bool_type) = true
is_same_primitive _ _ = false

abbrev pub is_comparison : BinOp → Bool
is_comparison op.Eq = true
is_comparison op.Ne = true
is_comparison op.Lt = true
is_comparison op.Gt = true
is_comparison op.Le = true
is_comparison op.Ge = true
is_comparison _ = false

-- an operator of a compound assignment takes the variable as its left operand, and gives a value of the variable's type
abbrev pub compound_takes : BinOp → PlainTy → PlainArg → Bool
compound_takes o t s = if is_comparison o then false else (is_some (node_operator o) && is_same_primitive t (binary_gives o (given t) s))
