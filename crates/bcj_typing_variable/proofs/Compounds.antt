-- What the operators of compound assignments take, by the types of the two operands.
use Rattle.std.proofs.Common.{◌≡◌, refl, ◌&&◌, ◌||◌}
use Rattle.bcj_symbolic_trees.specs.Types.{PlainTy, int_type, bool_type, void_type, class_type, array_type, PlainArg, given, null_arg}
use Rattle.bcj_typing_rules.specs.Operators.{is_int, is_bool, is_same_primitive, two_ints, two_bits}

-- two ints where an int is given
pub ints-are : (t : PlainTy) (s : PlainArg) → is_same_primitive t (two_ints (given t) s int_type) ≡ is_int (given t) && is_int s
ints-are int_type (given int_type) = refl
ints-are int_type (given bool_type) = refl
ints-are int_type (given void_type) = refl
ints-are int_type (given (class_type n)) = refl
ints-are int_type (given (array_type t)) = refl
ints-are int_type null_arg = refl
ints-are bool_type s = refl
ints-are void_type s = refl
ints-are (class_type n) s = refl
ints-are (array_type t) s = refl

-- two ints or two truth values where one of the same is given
pub bits-are : (t : PlainTy) (s : PlainArg) → is_same_primitive t (two_bits (given t) s) ≡ (is_int (given t) && is_int s) || (is_bool (given t) && is_bool s)
bits-are int_type (given int_type) = refl
bits-are int_type (given bool_type) = refl
bits-are int_type (given void_type) = refl
bits-are int_type (given (class_type n)) = refl
bits-are int_type (given (array_type t)) = refl
bits-are int_type null_arg = refl
bits-are bool_type (given int_type) = refl
bits-are bool_type (given bool_type) = refl
bits-are bool_type (given void_type) = refl
bits-are bool_type (given (class_type n)) = refl
bits-are bool_type (given (array_type t)) = refl
bits-are bool_type null_arg = refl
bits-are void_type s = refl
bits-are (class_type n) s = refl
bits-are (array_type t) s = refl

pub ruleset compound_rules = (ints-are, bits-are)
