-- How tight an expression binds, by the productions of JLS 15 from the loosest on; any expression has the level of an
-- assignment at least.
use Rattle.std.specs.Prelude.{ℕ}
use Rattle.bcj_parser_trees.specs.declared.expression.BinOp.{BinOp}
use Rattle.bcj_parser_trees.specs.declared.expression.BinOp.TheVariants as op

-- where no operator goes on
abbrev pub none : ℕ
none = 0

-- JLS 15.26
abbrev pub assignment : ℕ
assignment = 1

-- JLS 15.25
abbrev pub conditional : ℕ
conditional = 2

-- JLS 15.24
abbrev pub conditional_or : ℕ
conditional_or = 3

-- JLS 15.23
abbrev pub conditional_and : ℕ
conditional_and = 4

-- JLS 15.22, down to `bitwise_and`
abbrev pub inclusive_or : ℕ
inclusive_or = 5

abbrev pub exclusive_or : ℕ
exclusive_or = 6

abbrev pub bitwise_and : ℕ
bitwise_and = 7

-- JLS 15.21
abbrev pub equality : ℕ
equality = 8

-- JLS 15.20, with `instanceof`
abbrev pub relational : ℕ
relational = 9

-- JLS 15.19
abbrev pub shift : ℕ
shift = 10

-- JLS 15.18
abbrev pub additive : ℕ
additive = 11

-- JLS 15.17
abbrev pub multiplicative : ℕ
multiplicative = 12

-- JLS 15.14 to 15.16: an operand with its unary operators, `++` and `--`, and casts
abbrev pub unary : ℕ
unary = 13

-- JLS 15.8 to 15.13
abbrev pub primary : ℕ
primary = 14

-- the level of a binary operator's expressions
abbrev pub operator_level : BinOp → ℕ
operator_level op.OrElse = conditional_or
operator_level op.AndAlso = conditional_and
operator_level op.Or = inclusive_or
operator_level op.Xor = exclusive_or
operator_level op.And = bitwise_and
operator_level op.Eq = equality
operator_level op.Ne = equality
operator_level op.Lt = relational
operator_level op.Gt = relational
operator_level op.Le = relational
operator_level op.Ge = relational
operator_level op.Shl = shift
operator_level op.Shr = shift
operator_level op.Ushr = shift
operator_level op.Add = additive
operator_level op.Sub = additive
operator_level op.Mul = multiplicative
operator_level op.Div = multiplicative
operator_level op.Rem = multiplicative
