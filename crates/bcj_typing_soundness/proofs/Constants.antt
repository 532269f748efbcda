-- The values of constants lie in the range of an int.
use Rattle.std.proofs.Common.{◌≡◌, sym, ap, subst, ◌∙◌, inl, inr, ℕ, ◌^◌, ℤ, pos, Bool, true, false, cond, nat_lt, List, Some, None, FitsSigned, lit<}
use Rattle.std.specs.Int.{w32, cast_signed}
use Rattle.std.proofs.lemmas.Bool.{cases_Bool, ltb-true}
use borrow.Author.Gap.{read_sfits}
use lib.Signed.{mag_rem, mag_shr}
use mir.ValLaws.{sfits_le}
use Rattle.bcj_parser_trees.specs.declared.expression.UnaryOp.{UnaryOp}
use Rattle.bcj_parser_trees.specs.declared.expression.UnaryOp.TheVariants as unop
use Rattle.bcj_parser_trees.specs.declared.expression.BinOp.{BinOp}
use Rattle.bcj_parser_trees.specs.declared.expression.BinOp.TheVariants as op
use Rattle.bcj_parser_trees.specs.Trees as source
use Rattle.bcj_symbolic_trees.specs.Types.{PlainTy, int_type, bool_type, void_type, class_type, array_type}
use Rattle.bcj_decl_rules.specs.declared.value.Value.{Value}
use Rattle.bcj_decl_rules.specs.declared.value.Value.TheVariants as value
use Rattle.bcj_decl_rules.specs.World.{Named, Field}
use Rattle.bcj_decl_rules.specs.Constants.{least_size, literal_value, unary_value, is_zero, a_number, a_truth, quotient, remainder, distance, int_operation, bool_operation, binary_value, chosen_value, of_type, IsConstant, IsConstantField}
use Rattle.bcj_decl_rules.specs.Constants as constant
use Rattle.bcj_typing_soundness.specs.Values.{IsInRange, an_int, a_bool}

-- bits read as a number
pub bits_fit : (n : ℕ) → FitsSigned w32 (cast_signed w32 n)
bits_fit n = read_sfits w32 n

-- a number that is given
some_number : {x : ℤ} {r : Value} → FitsSigned w32 x → a_number x ≡ Some r → IsInRange r
some_number {x} {r} f h = let e : value.Int x ≡ r = cc in subst IsInRange e (an_int f)

-- a truth value that is given
some_truth : {b : Bool} {r : Value} → a_truth b ≡ Some r → IsInRange r
some_truth {b} {r} h = let e : value.Bool b ≡ r = cc in subst IsInRange e a_bool

-- a literal's value
pub literal_fits : (n : ℕ) (decimal : Bool) (x : ℤ) → literal_value n decimal ≡ Some x → FitsSigned w32 x
literal_fits n true x h =
    elim (cases_Bool (nat_lt n least_size)) [
      | inl e ↦
          let is : pos n ≡ x = let k : Some (pos n) ≡ Some x = ap (λ b. cond b (Some (pos n)) None) (sym e) ∙ h in cc in
          subst (FitsSigned w32) is (record { sfits = ltb-true n least_size e })
      | inr e ↦ let k : None ≡ Some x = ap (λ b. cond b (Some (pos n)) None) (sym e) ∙ h in cc
    ]
literal_fits n false x h =
    elim (cases_Bool (nat_lt n (2 ^ 32))) [
      | inl e ↦
          let is : cast_signed w32 n ≡ x = let k : Some (cast_signed w32 n) ≡ Some x = ap (λ b. cond b (Some (cast_signed w32 n)) None) (sym e) ∙ h in cc in
          subst (FitsSigned w32) is (bits_fit n)
      | inr e ↦ let k : None ≡ Some x = ap (λ b. cond b (Some (cast_signed w32 n)) None) (sym e) ∙ h in cc
    ]

-- what the operators give
unary_fits : (o : UnaryOp) (v r : Value) → IsInRange v → unary_value o v ≡ Some r → IsInRange r
unary_fits unop.Plus (value.Int x) r (an_int f) h = some_number f h
unary_fits unop.Minus (value.Int x) r f h = some_number (bits_fit _) h
unary_fits unop.Flip (value.Int x) r f h = some_number (bits_fit _) h
unary_fits unop.Not (value.Bool b) r f h = some_truth h
unary_fits unop.Plus (value.Bool b) r f h = cc
unary_fits unop.Minus (value.Bool b) r f h = cc
unary_fits unop.Flip (value.Bool b) r f h = cc
unary_fits unop.Not (value.Int x) r f h = cc

divided_fits : (b : Bool) {z : ℤ} (r : Value) → FitsSigned w32 z → cond b None (a_number z) ≡ Some r → IsInRange r
divided_fits true r f h = cc
divided_fits false r f h = some_number f h

operation_fits : (o : BinOp) (x y : ℤ) (r : Value) → FitsSigned w32 x → int_operation o x y ≡ Some r → IsInRange r
operation_fits op.Add x y r f h = some_number (bits_fit _) h
operation_fits op.Sub x y r f h = some_number (bits_fit _) h
operation_fits op.Mul x y r f h = some_number (bits_fit _) h
operation_fits op.Div x y r f h = divided_fits (is_zero y) r (bits_fit _) h
operation_fits op.Rem x y r f h = divided_fits (is_zero y) r (sfits_le (mag_rem x y) f) h
operation_fits op.Shl x y r f h = some_number (bits_fit _) h
operation_fits op.Shr x y r f h = some_number (sfits_le (mag_shr x (2 ^ distance y)) f) h
operation_fits op.Ushr x y r f h = some_number (bits_fit _) h
operation_fits op.Or x y r f h = some_number (bits_fit _) h
operation_fits op.Xor x y r f h = some_number (bits_fit _) h
operation_fits op.And x y r f h = some_number (bits_fit _) h
operation_fits op.Eq x y r f h = some_truth h
operation_fits op.Ne x y r f h = some_truth h
operation_fits op.Lt x y r f h = some_truth h
operation_fits op.Gt x y r f h = some_truth h
operation_fits op.Le x y r f h = some_truth h
operation_fits op.Ge x y r f h = some_truth h
operation_fits op.OrElse x y r f h = cc
operation_fits op.AndAlso x y r f h = cc

truth_fits : (o : BinOp) (x y : Bool) (r : Value) → bool_operation o x y ≡ Some r → IsInRange r
truth_fits op.OrElse x y r h = some_truth h
truth_fits op.AndAlso x y r h = some_truth h
truth_fits op.Or x y r h = some_truth h
truth_fits op.And x y r h = some_truth h
truth_fits op.Xor x y r h = some_truth h
truth_fits op.Ne x y r h = some_truth h
truth_fits op.Eq x y r h = some_truth h
truth_fits _ x y r h = cc

binary_fits : (o : BinOp) (x y r : Value) → IsInRange x → binary_value o x y ≡ Some r → IsInRange r
binary_fits o (value.Int x) (value.Int y) r (an_int f) h = operation_fits o x y r f h
binary_fits o (value.Bool x) (value.Bool y) r f h = truth_fits o x y r h
binary_fits o (value.Int x) (value.Bool y) r f h = cc
binary_fits o (value.Bool x) (value.Int y) r f h = cc

either_fits : (b : Bool) {x y : ℤ} → FitsSigned w32 x → FitsSigned w32 y → FitsSigned w32 (cond b x y)
either_fits true f g = f
either_fits false f g = g

chosen_fits : (t x y r : Value) → IsInRange x → IsInRange y → chosen_value t x y ≡ Some r → IsInRange r
chosen_fits (value.Bool b) (value.Int x) (value.Int y) r (an_int f) (an_int g) h = some_number (either_fits b f g) h
chosen_fits (value.Bool b) (value.Bool x) (value.Bool y) r f g h = some_truth h
chosen_fits (value.Bool b) (value.Int x) (value.Bool y) r f g h = cc
chosen_fits (value.Bool b) (value.Bool x) (value.Int y) r f g h = cc
chosen_fits (value.Int n) x y r f g h = cc

converted_fits : (t : PlainTy) (v r : Value) → IsInRange v → of_type t v ≡ Some r → IsInRange r
converted_fits int_type (value.Int x) r f h = let e : value.Int x ≡ r = cc in subst IsInRange e f
converted_fits bool_type (value.Bool b) r f h = let e : value.Bool b ≡ r = cc in subst IsInRange e f
converted_fits int_type (value.Bool b) r f h = cc
converted_fits bool_type (value.Int x) r f h = cc
converted_fits void_type v r f h = cc
converted_fits (class_type name) v r f h = cc
converted_fits (array_type component) v r f h = cc

mutual
  -- the value of a constant expression
  pub constant_fits : {units : List source.PlainUnit} {from : Named} {e : source.PlainExpr} {v : Value} → IsConstant units from e v → IsInRange v
  constant_fits (constant.int {n = n} {decimal = decimal} {x = x} h) = an_int (literal_fits n decimal x h)
  constant_fits constant.least_int = an_int (record { sfits = lit< tt })
  constant_fits constant.boolean = a_bool
  constant_fits (constant.in_paren p) = constant_fits p
  constant_fits (constant.signed {o = o} {v = v} {r = r} p h) = unary_fits o v r (constant_fits p) h
  constant_fits (constant.joined {o = o} {x = x} {y = y} {r = r} p q h) = binary_fits o x y r (constant_fits p) h
  constant_fits (constant.chosen {t = t} {x = x} {y = y} {r = r} c p q h) = chosen_fits t x y r (constant_fits p) (constant_fits q) h
  constant_fits (constant.converted {ty = ty} {v = v} {r = r} p h) = converted_fits _ v r (constant_fits p) h
  constant_fits (constant.simple f p) = field_fits p
  constant_fits (constant.qualified n f p) = field_fits p

  -- that of a constant field
  pub field_fits : {units : List source.PlainUnit} {f : Field} {v : Value} → IsConstantField units f v → IsInRange v
  field_fits (constant.constant_variable {f = f} {v = v} {r = r} final init p h) = converted_fits f.ty v r (constant_fits p) h
