-- Constants in range, and those of a type.
use Rattle.std.specs.Prelude.{ℤ, Bool, FitsSigned}
use Rattle.std.specs.Int.{w32}
use Rattle.bcj_symbolic_trees.specs.Types.{PlainTy, int_type, bool_type}
use Rattle.bcj_decl_rules.specs.declared.value.Value.{Value}
use Rattle.bcj_decl_rules.specs.declared.value.Value.TheVariants as value

-- a number is one of an int
pub data IsInRange : Value → Type 0 where
  an_int : {n : ℤ} → FitsSigned w32 n → IsInRange (value.Int n)
  a_bool : {b : Bool} → IsInRange (value.Bool b)

-- a value of a type
pub data IsValueOf : Value → PlainTy → Type 0 where
  int_of : {n : ℤ} → FitsSigned w32 n → IsValueOf (value.Int n) int_type
  bool_of : {b : Bool} → IsValueOf (value.Bool b) bool_type
