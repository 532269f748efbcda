-- Which nodes of a source tree are of the language that runs today, by their forms alone.
use Rattle.std.specs.Prelude.{ℕ, ◌+◌, Bool, true, false, not, ◌&&◌, ◌||◌, nat_le, nat_eq, List, [], ◌∷◌, Option, None, Some, codes, bytes_eq}
use Rattle.std.specs.List.{list_any}
use Rattle.bcj_cli_language.specs.declared.tree.Operator.{Operator}
use Rattle.bcj_cli_language.specs.declared.tree.Operator.TheVariants as operators
use Rattle.bcj_cli_language.specs.declared.tree.Comparison.{Comparison}
use Rattle.bcj_cli_language.specs.declared.tree.Comparison.TheVariants as comparisons
use Rattle.bcj_parser_trees.specs.declared.names.Base.{Base}
use Rattle.bcj_parser_trees.specs.declared.names.Base.TheVariants as base
use Rattle.bcj_parser_trees.specs.declared.names.TypeName.{TypeName}
use Rattle.bcj_parser_trees.specs.declared.names.Access.{Access}
use Rattle.bcj_parser_trees.specs.declared.names.Access.TheVariants as access
use Rattle.bcj_parser_trees.specs.declared.names.Mods.{Mods}
use Rattle.bcj_parser_trees.specs.declared.names.Param.{Param}
use Rattle.bcj_parser_trees.specs.declared.expression.BinOp.{BinOp}
use Rattle.bcj_parser_trees.specs.declared.expression.BinOp.TheVariants as op
use Rattle.bcj_parser_trees.specs.Trees.{PlainExpr, int_literal, simple_name, paren, dot, dot_call, binary, assign, PlainExprs, no_exprs, more_exprs, PlainOption, absent, present, PlainStmt, block, PlainElse, no_else, else_with, PlainBody, no_body, with_body, PlainType}

abbrev pub is_among : List (List ℕ) → List ℕ → Bool
is_among names x = list_any (λ known. bytes_eq known x) names

abbrev pub operator : BinOp → Option Operator
operator op.Add = Some operators.Add
operator op.Sub = Some operators.Sub
operator op.Mul = Some operators.Mul
operator _ = None

abbrev pub comparison : BinOp → Option Comparison
comparison op.Lt = Some comparisons.Less
comparison op.Le = Some comparisons.LessEqual
comparison op.Gt = Some comparisons.Greater
comparison op.Ge = Some comparisons.GreaterEqual
comparison op.Eq = Some comparisons.Equal
comparison op.Ne = Some comparisons.NotEqual
comparison _ = None

-- `*` binds tighter than `+` and `-`
abbrev pub tightness : BinOp → ℕ
tightness op.Mul = 1
tightness _ = 0

abbrev pub is_arithmetic : BinOp → Bool
is_arithmetic op.Add = true
is_arithmetic op.Sub = true
is_arithmetic op.Mul = true
is_arithmetic _ = false

abbrev pub is_comparison : BinOp → Bool
is_comparison op.Lt = true
is_comparison op.Le = true
is_comparison op.Gt = true
is_comparison op.Ge = true
is_comparison op.Eq = true
is_comparison op.Ne = true
is_comparison _ = false

-- an operand of sums, where an operator binds at least as tight as v
abbrev pub is_operand : ℕ → PlainExpr → Bool
is_operand v (int_literal at n decimal) = true
is_operand v (simple_name at x) = true
is_operand v (paren at e) = true
is_operand v (binary at o l r) = is_arithmetic o && nat_le v (tightness o)
is_operand v _ = false

abbrev pub is_sum : PlainExpr → Bool
is_sum e = is_operand 0 e

-- an operator with operands that it may have: what stands to the right of one binds tighter
abbrev pub joins : BinOp → PlainExpr → PlainExpr → Bool
joins o l r =
    (is_arithmetic o && (is_operand (tightness o) l && is_operand (tightness o + 1) r)) || (is_comparison o && (is_sum l && is_sum r))

abbrev pub is_test : PlainExpr → Bool
is_test (binary at o l r) = is_comparison o
is_test _ = false

abbrev pub is_name_of : List ℕ → PlainExpr → Bool
is_name_of x (simple_name at y) = bytes_eq y x
is_name_of x _ = false

-- `System.out`
abbrev pub is_out : PlainExpr → Bool
is_out (dot at e x) = is_name_of (codes "System") e && bytes_eq x (codes "out")
is_out _ = false

abbrev pub is_one_sum : PlainExprs → Bool
is_one_sum (more_exprs e no_exprs) = is_sum e
is_one_sum _ = false

-- `System.out.println(e)`
abbrev pub is_print : PlainExpr → List ℕ → PlainExprs → Bool
is_print target x es = is_out target && (bytes_eq x (codes "println") && is_one_sum es)

abbrev pub is_name : PlainExpr → Bool
is_name (simple_name at x) = true
is_name _ = false

abbrev pub is_none : Option BinOp → Bool
is_none None = true
is_none (Some o) = false

-- `x = e`
abbrev pub assigns : Option BinOp → PlainExpr → PlainExpr → Bool
assigns o place e = is_none o && (is_name place && is_sum e)

-- what stands as a statement
abbrev pub is_evaluation : PlainExpr → Bool
is_evaluation (dot_call at e x es) = true
is_evaluation (assign at o place e) = true
is_evaluation _ = false

abbrev pub is_present_sum : PlainOption → Bool
is_present_sum absent = false
is_present_sum (present e) = is_sum e

abbrev pub is_int_base : Base → Bool
is_int_base base.Int = true
is_int_base _ = false

abbrev pub is_void_base : Base → Bool
is_void_base base.Void = true
is_void_base _ = false

abbrev pub is_int : TypeName → Bool
is_int ty = is_int_base ty.base && nat_eq ty.dims 0

abbrev pub is_void : TypeName → Bool
is_void ty = is_void_base ty.base && nat_eq ty.dims 0

abbrev pub is_block : PlainStmt → Bool
is_block (block at ss) = true
is_block _ = false

abbrev pub is_block_or_none : PlainElse → Bool
is_block_or_none no_else = true
is_block_or_none (else_with s) = is_block s

-- a test with a block, and another one behind `else`
abbrev pub is_choice : PlainExpr → PlainStmt → PlainElse → Bool
is_choice c first second = is_test c && (is_block first && is_block_or_none second)

abbrev pub is_open : Access → Bool
is_open access.Open = true
is_open _ = false

-- `static` alone
abbrev pub is_static_alone : Mods → Bool
is_static_alone m = is_open m.access && (m.is_static && (not m.is_abstract && not m.is_final))

abbrev pub is_empty : {A : Type 0} → List A → Bool
is_empty [] = true
is_empty (x ∷ xs) = false

abbrev pub has_body : PlainBody → Bool
has_body no_body = false
has_body (with_body ss) = true

-- `static void main()` with a body
abbrev pub is_main : Mods → TypeName → List ℕ → List Param → List (List ℕ) → PlainBody → Bool
is_main mods ty x params throws body =
    is_static_alone mods && (is_void ty && (bytes_eq x (codes "main") && (is_empty params && (is_empty throws && has_body body))))

-- the classes that every program has from the start
unfoldable pub boot_types : List (List ℕ)
boot_types = codes "Object" ∷ codes "String" ∷ codes "System" ∷ codes "PrintStream" ∷ codes "Throwable" ∷ codes "Exception" ∷ codes "RuntimeException" ∷ codes "Error"
    ∷ codes "LinkageError" ∷ codes "ClassCircularityError" ∷ codes "NoClassDefFoundError" ∷ codes "VerifyError" ∷ codes "IncompatibleClassChangeError"
    ∷ codes "ExceptionInInitializerError" ∷ codes "NoSuchFieldError" ∷ codes "NoSuchMethodError" ∷ codes "InstantiationError" ∷ codes "IllegalAccessError"
    ∷ codes "AbstractMethodError" ∷ codes "NullPointerException" ∷ codes "ArithmeticException" ∷ codes "ClassCastException" ∷ codes "ArrayStoreException"
    ∷ codes "NegativeArraySizeException" ∷ codes "ArrayIndexOutOfBoundsException" ∷ []

abbrev pub is_one : {A : Type 0} → List A → Bool
is_one (x ∷ []) = true
is_one _ = false

-- a class of this name with one member, which extends and implements nothing
abbrev pub is_main_class : List ℕ → PlainType → Bool
is_main_class main t =
    not t.interface && (not t.is_abstract && (bytes_eq t.name main && (not (is_among boot_types main)
    && (is_empty t.extends && (is_empty t.implements && is_one t.members)))))
