-- What follows from more values.
use Rattle.std.proofs.Common.{◌≡◌, Bool, true, false, cond, List, Option, Some, None, refl, ◌∙◌, ap, ℕ}
use Rattle.std.specs.Option.{option_and_then, is_none}
use Rattle.bcj_parser_trees.specs.declared.expression.UnaryOp.{UnaryOp}
use Rattle.bcj_parser_trees.specs.Trees.{PlainExpr, simple_name, paren, dot, unary, cast, binary, conditional, PlainOption, absent, present, PlainUnit}
use Rattle.bcj_decl_rules.specs.declared.value.Value.{Value}
use Rattle.bcj_decl_rules.specs.World.{Named, Field, World, world_of, type_of, initialiser_of}
use Rattle.bcj_decl_rules.specs.Members.{field_of}
use Rattle.bcj_decl_rules.specs.Constants.{unary_value, binary_value, chosen_value, of_type}
use Rattle.bcj_decl_rules.specs.function.Constants.{Known, spells_least, least_int, signed_value, value_of_field, value_in, initial_value, field_value}
use Rattle.bcj_decl_soundness.proofs.Constants.{Passed, passed}
use Rattle.bcj_decl_constants.specs.Needs.{fields_in}
use Rattle.bcj_decl_constants.specs.Waiting.{Has}
use Rattle.bcj_decl_constants.proofs.Reached.{named_has}

-- ---- options

-- a result that is there is there of the other too
abbrev pub Kept : {A : Type 0} → Option A → Option A → Type 0
Kept {A = A} x y = (v : A) → x ≡ Some v → y ≡ Some v

then_kept : {A B : Type 0} (f g : A → Option B) (x y : Option A) → Kept x y → ((a : A) → Kept (f a) (g a)) → Kept (option_and_then f x) (option_and_then g y)
then_kept f g x y first more v h =
    let p : Passed f x v = passed f x v h in
    ap (option_and_then g) (first p.value p.given) ∙ more p.value v p.gives

cond_kept : {A : Type 0} (b : Bool) (x y z : Option A) → Kept x y → Kept (cond b x z) (cond b y z)
cond_kept true x y z kept v h = kept v h
cond_kept false x y z kept v h = h

other_kept : {A : Type 0} (b : Bool) (z x y : Option A) → Kept x y → Kept (cond b z x) (cond b z y)
other_kept true z x y kept v h = h
other_kept false z x y kept v h = kept v h

-- ---- expressions

-- the values of the world's fields are known to the other too
abbrev pub Extends : World → Known → Known → Type 0
Extends w known other = (f : Field) → Has (fields_in w) f → Kept (known f) (other f)

field_kept : (w : World) (known other : Known) → Extends w known other → (o : Option Field) → ((f : Field) → o ≡ Some f → Has (fields_in w) f) → Kept (value_of_field known o) (value_of_field other o)
field_kept w known other more None inside v h = h
field_kept w known other more (Some f) inside v h = more f (inside f refl) v h

signed_kept : (o : UnaryOp) (e : PlainExpr) (x y : Option Value) → Kept x y → Kept (signed_value o e x) (signed_value o e y)
signed_kept o e x y part =
    other_kept (spells_least o e) (Some least_int) (option_and_then (unary_value o) x) (option_and_then (unary_value o) y)
    (then_kept (unary_value o) (unary_value o) x y part (λ a v h. h))

module _ (w : World) (known other : Known) (more : Extends w known other) (from : Named) where
  dot_kept : (at : ℕ) (e : PlainExpr) (name : Named) → Kept (value_in w known from (dot at e name)) (value_in w other from (dot at e name))
  dot_kept at (simple_name place x) name =
      cond_kept (is_none (field_of w from x)) (value_of_field known (field_of w x name)) (value_of_field other (field_of w x name)) None
      (field_kept w known other more (field_of w x name) (named_has w x name))
  dot_kept at e name = λ v h. h

  pub value_kept : (e : PlainExpr) → Kept (value_in w known from e) (value_in w other from e)
  value_kept (paren at e) = value_kept e
  value_kept (unary at o e) = signed_kept o e (value_in w known from e) (value_in w other from e) (value_kept e)
  value_kept (binary at o a b) =
      then_kept (λ x. option_and_then (binary_value o x) (value_in w known from b)) (λ x. option_and_then (binary_value o x) (value_in w other from b)) (value_in w known from a) (value_in w other from a) (value_kept a)
      (λ x. then_kept (binary_value o x) (binary_value o x) (value_in w known from b) (value_in w other from b) (value_kept b) (λ y v h. h))
  value_kept (conditional at c a b) =
      then_kept (λ t. option_and_then (λ x. option_and_then (chosen_value t x) (value_in w known from b)) (value_in w known from a))
      (λ t. option_and_then (λ x. option_and_then (chosen_value t x) (value_in w other from b)) (value_in w other from a)) (value_in w known from c) (value_in w other from c) (value_kept c)
      (λ t.
      then_kept (λ x. option_and_then (chosen_value t x) (value_in w known from b)) (λ x. option_and_then (chosen_value t x) (value_in w other from b)) (value_in w known from a) (value_in w other from a) (value_kept a)
      (λ x. then_kept (chosen_value t x) (chosen_value t x) (value_in w known from b) (value_in w other from b) (value_kept b) (λ y v h. h)))
  value_kept (cast at ty e) = then_kept (of_type (type_of ty)) (of_type (type_of ty)) (value_in w known from e) (value_in w other from e) (value_kept e) (λ y v h. h)
  value_kept (simple_name at x) = field_kept w known other more (field_of w from x) (named_has w from x)
  value_kept (dot at e name) = dot_kept at e name
  value_kept e = λ v h. h

-- ---- fields

initial_kept : (w : World) (known other : Known) → Extends w known other → (f : Field) (init : PlainOption) → Kept (initial_value w known f init) (initial_value w other f init)
initial_kept w known other more f absent v h = h
initial_kept w known other more f (present e) v h =
    then_kept (of_type f.ty) (of_type f.ty) (value_in w known f.class e) (value_in w other f.class e) (value_kept w known other more f.class e) (λ y u k. k) v h

-- what a field is worth by the values that are known it is worth by more of them
pub worth_kept : (units : List PlainUnit) (known other : Known) → Extends (world_of units) known other → (f : Field) → Kept (field_value units known f) (field_value units other f)
worth_kept units known other more f =
    cond_kept f.is_final (initial_value (world_of units) known f (initialiser_of units f)) (initial_value (world_of units) other f (initialiser_of units f)) None
    (initial_kept (world_of units) known other more f (initialiser_of units f))
