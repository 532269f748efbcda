-- Constant expressions over `int` and `boolean` (JLS 15.28), and constant variables (JLS 4.12.4). An int is a number from -2^31 to
-- 2^31 - 1.
use Rattle.std.specs.Prelude.{◌≡◌, ℕ, ◌/◌, ◌%◌, ◌^◌, ℤ, pos, neg_ℤ, int_lt, int_rem, Bool, true, false, not, ◌&&◌, ◌||◌, nat_lt, List, Option, None, Some, if◌then◌else◌}
use Rattle.std.specs.Ordering.{int_eq}
use Rattle.std.specs.Int.{w32, cast_signed, cast_unsigned, int_wrapping_add, int_wrapping_sub, int_wrapping_mul, int_wrapping_div, int_wrapping_neg, int_bit_and, int_bit_or, int_bit_xor, int_bit_not, int_shl, int_shr}
use Rattle.bcj_parser_trees.specs.declared.names.TypeName.{TypeName}
use Rattle.bcj_parser_trees.specs.declared.expression.UnaryOp.{UnaryOp}
use Rattle.bcj_parser_trees.specs.declared.expression.UnaryOp.TheVariants as unop
use Rattle.bcj_parser_trees.specs.declared.expression.BinOp.{BinOp}
use Rattle.bcj_parser_trees.specs.declared.expression.BinOp.TheVariants as op
use Rattle.bcj_parser_trees.specs.Trees.{PlainExpr, int_literal, bool_literal, simple_name, paren, dot, unary, binary, conditional, cast, present, PlainUnit}
use Rattle.bcj_symbolic_trees.specs.Types.{PlainTy, int_type, bool_type}
use Rattle.bcj_decl_rules.specs.declared.value.Value.{Value}
use Rattle.bcj_decl_rules.specs.declared.value.Value.TheVariants as value
use Rattle.bcj_decl_rules.specs.World.{Named, Field, world_of, type_of, initialiser_of}
use Rattle.bcj_decl_rules.specs.Members.{field_of}

-- the size of the least int, which only a decimal literal right behind `-` may spell (JLS 3.10.1)
abbrev pub least_size : ℕ
least_size = 2 ^ 31

-- a decimal literal is below 2^31; another one is the 32 bits of an int
abbrev pub literal_value : ℕ → Bool → Option ℤ
literal_value n true = if nat_lt n least_size then Some (pos n) else None
literal_value n false = if nat_lt n (2 ^ 32) then Some (cast_signed w32 n) else None

-- unary operators (JLS 15.15)
abbrev pub unary_value : UnaryOp → Value → Option Value
unary_value unop.Plus (value.Int x) = Some (value.Int x)
unary_value unop.Minus (value.Int x) = Some (value.Int (int_wrapping_neg w32 x))
unary_value unop.Flip (value.Int x) = Some (value.Int (int_bit_not w32 x))
unary_value unop.Not (value.Bool b) = Some (value.Bool (not b))
unary_value _ _ = None

-- shifts use the low five bits of the distance (JLS 15.19)
abbrev pub distance : ℤ → ℕ
distance y = cast_unsigned w32 y % 32

abbrev pub a_number : ℤ → Option Value
a_number x = Some (value.Int x)

abbrev pub a_truth : Bool → Option Value
a_truth b = Some (value.Bool b)

abbrev pub is_zero : ℤ → Bool
is_zero y = int_eq y (pos 0)

-- a division by zero has no value (JLS 15.17.2, 15.17.3)
abbrev pub quotient : ℤ → ℤ → Option Value
quotient x y = if is_zero y then None else a_number (int_wrapping_div w32 x y)

abbrev pub remainder : ℤ → ℤ → Option Value
remainder x y = if is_zero y then None else a_number (int_rem x y)

abbrev pub shifted : BinOp → ℤ → ℤ → Option Value
shifted op.Shl x y = a_number (int_shl w32 x (distance y))
shifted op.Shr x y = a_number (int_shr x (distance y))
shifted op.Ushr x y = a_number (cast_signed w32 (cast_unsigned w32 x / 2 ^ distance y))
shifted _ x y = None

-- binary operators on two ints (JLS 15.17 to 15.22)
abbrev pub int_operation : BinOp → ℤ → ℤ → Option Value
int_operation op.Add x y = a_number (int_wrapping_add w32 x y)
int_operation op.Sub x y = a_number (int_wrapping_sub w32 x y)
int_operation op.Mul x y = a_number (int_wrapping_mul w32 x y)
int_operation op.Div x y = quotient x y
int_operation op.Rem x y = remainder x y
int_operation op.Shl x y = shifted op.Shl x y
int_operation op.Shr x y = shifted op.Shr x y
int_operation op.Ushr x y = shifted op.Ushr x y
int_operation op.Or x y = a_number (int_bit_or w32 x y)
int_operation op.Xor x y = a_number (int_bit_xor w32 x y)
int_operation op.And x y = a_number (int_bit_and w32 x y)
int_operation op.Eq x y = a_truth (int_eq x y)
int_operation op.Ne x y = a_truth (not (int_eq x y))
int_operation op.Lt x y = a_truth (int_lt x y)
int_operation op.Gt x y = a_truth (int_lt y x)
int_operation op.Le x y = a_truth (not (int_lt y x))
int_operation op.Ge x y = a_truth (not (int_lt x y))
int_operation op.OrElse x y = None
int_operation op.AndAlso x y = None

-- on two booleans (JLS 15.21 to 15.24)
abbrev pub differ : Bool → Bool → Bool
differ true b = not b
differ false b = b

abbrev pub bool_operation : BinOp → Bool → Bool → Option Value
bool_operation op.OrElse a b = a_truth (a || b)
bool_operation op.AndAlso a b = a_truth (a && b)
bool_operation op.Or a b = a_truth (a || b)
bool_operation op.And a b = a_truth (a && b)
bool_operation op.Xor a b = a_truth (differ a b)
bool_operation op.Ne a b = a_truth (differ a b)
bool_operation op.Eq a b = a_truth (not (differ a b))
bool_operation _ a b = None

abbrev pub binary_value : BinOp → Value → Value → Option Value
binary_value o (value.Int x) (value.Int y) = int_operation o x y
binary_value o (value.Bool a) (value.Bool b) = bool_operation o a b
binary_value _ _ _ = None

-- the two parts of a choice have one type (JLS 15.25)
abbrev pub chosen_value : Value → Value → Value → Option Value
chosen_value (value.Bool b) (value.Int x) (value.Int y) = a_number (if b then x else y)
chosen_value (value.Bool b) (value.Bool x) (value.Bool y) = a_truth (if b then x else y)
chosen_value _ _ _ = None

-- a value of a type, for a cast or an assignment
abbrev pub of_type : PlainTy → Value → Option Value
of_type int_type (value.Int x) = Some (value.Int x)
of_type bool_type (value.Bool b) = Some (value.Bool b)
of_type _ _ = None

-- What an expression in a type is worth as a constant, and what a field is. A constant that hangs on itself has no derivation. Access
-- and static contexts don't matter.
mutual
  pub data IsConstant (units : List PlainUnit) : Named → PlainExpr → Value → Type 0 where
    int : {from : Named} {at n : ℕ} {decimal : Bool} {x : ℤ} → literal_value n decimal ≡ Some x → IsConstant units from (int_literal at n decimal) (value.Int x)
    least_int : {from : Named} {at part_at : ℕ} → IsConstant units from (unary at unop.Minus (int_literal part_at least_size true)) (value.Int (neg_ℤ (pos least_size)))
    boolean : {from : Named} {at : ℕ} {b : Bool} → IsConstant units from (bool_literal at b) (value.Bool b)
    in_paren : {from : Named} {at : ℕ} {e : PlainExpr} {v : Value} → IsConstant units from e v → IsConstant units from (paren at e) v
    signed : {from : Named} {at : ℕ} {o : UnaryOp} {e : PlainExpr} {v r : Value} → IsConstant units from e v → unary_value o v ≡ Some r → IsConstant units from (unary at o e) r
    joined : {from : Named} {at : ℕ} {o : BinOp} {a b : PlainExpr} {x y r : Value} → IsConstant units from a x → IsConstant units from b y → binary_value o x y ≡ Some r
        → IsConstant units from (binary at o a b) r
    chosen : {from : Named} {at : ℕ} {c a b : PlainExpr} {t x y r : Value} → IsConstant units from c t → IsConstant units from a x → IsConstant units from b y → chosen_value t x y ≡ Some r
        → IsConstant units from (conditional at c a b) r
    converted : {from : Named} {at : ℕ} {ty : TypeName} {e : PlainExpr} {v r : Value} → IsConstant units from e v → of_type (type_of ty) v ≡ Some r → IsConstant units from (cast at ty e) r
    -- a simple name is that of a field
    simple : {from : Named} {at : ℕ} {x : Named} {f : Field} {v : Value} → field_of (world_of units) from x ≡ Some f → IsConstantField units f v → IsConstant units from (simple_name at x) v
    -- a name before a dot is that of a type where no field has it (JLS 6.5.2)
    qualified : {from : Named} {at part_at : ℕ} {x name : Named} {f : Field} {v : Value} → field_of (world_of units) from x ≡ None → field_of (world_of units) x name ≡ Some f → IsConstantField units f v
        → IsConstant units from (dot at (simple_name part_at x) name) v

  pub data IsConstantField (units : List PlainUnit) : Field → Value → Type 0 where
    constant_variable : {f : Field} {e : PlainExpr} {v r : Value} → f.is_final ≡ true → initialiser_of units f ≡ present e → IsConstant units f.class e v → of_type f.ty v ≡ Some r → IsConstantField units f r
