-- The value of an expression as a function, and as a relation.
use Rattle.std.proofs.Common.{rules, ◌≡◌, ℕ, ◌==◌, ℤ, Bool, true, false, cond, List, Option, Some, None, refl, sym, ◌∙◌, ap, subst, inl, inr}
use Rattle.std.proofs.lemmas.Bool.{cases_Bool, and_parts}
use Rattle.std.specs.Option.{option_and_then, option_map, is_none}
use Rattle.bcj_parser_trees.specs.declared.expression.UnaryOp.{UnaryOp}
use Rattle.bcj_parser_trees.specs.declared.expression.UnaryOp.TheVariants as unop
use Rattle.bcj_parser_trees.specs.Trees.{PlainExpr, int_literal, bool_literal, simple_name, paren, dot, unary, cast, binary, conditional, PlainUnit}
use Rattle.bcj_decl_rules.specs.declared.value.Value.{Value}
use Rattle.bcj_decl_rules.specs.declared.value.Value.TheVariants as value
use Rattle.bcj_decl_rules.specs.World.{Named, Field, world_of, type_of, initialiser_of}
use Rattle.bcj_decl_rules.specs.Members.{field_of}
use Rattle.bcj_decl_rules.specs.Constants.{least_size, literal_value, unary_value, binary_value, chosen_value, of_type, IsConstant, IsConstantField}
use Rattle.bcj_decl_rules.specs.Constants as rule
use Rattle.bcj_decl_rules.specs.function.Constants.{Known, spells_least, least_int, signed_value, value_in, initial_value}
use Rattle.bcj_decl_soundness.specs.Laws as law

-- what a step that may fail was given
pub record Passed {A B : Type 0} (f : A → Option B) (o : Option A) (r : B) : Type 0 where
  pub value : A
  pub given : o ≡ Some value
  pub gives : f value ≡ Some r

pub passed : {A B : Type 0} (f : A → Option B) (o : Option A) (r : B) → option_and_then f o ≡ Some r → Passed f o r
passed f None r h = cc
passed f (Some a) r h = record { value = a; given = refl; gives = h }

pub mapped : {A B : Type 0} (f : A → B) (o : Option A) (r : B) → option_map f o ≡ Some r → (a : A) × (o ≡ Some a) × (f a ≡ r)
mapped f None r h = cc
mapped f (Some a) r h = (a, refl, ap (λ x. elim x [ None ↦ f a | Some y ↦ y ]) h)

-- ---- what the function finds is a constant

abbrev Right : List PlainUnit → Known → Named → PlainExpr → Type 0
Right units known from e = (v : Value) → value_in (world_of units) known from e ≡ Some v → IsConstant units from e v

least_is : (o : UnaryOp) (e : PlainExpr) → spells_least o e ≡ true → (units : List PlainUnit) (from : Named) (at : ℕ) → IsConstant units from (unary at o e) least_int
least_is unop.Minus (int_literal at n decimal) h units from place =
    let parts : (decimal ≡ true) × ((n == least_size) ≡ true) = and_parts decimal (n == least_size) h in
    let size : n ≡ least_size = search (rules, parts.1) in
    let P : Bool → Type 0 = λ d. IsConstant units from (unary place unop.Minus (int_literal at n d)) least_int in
    let Q : ℕ → Type 0 = λ m. IsConstant units from (unary place unop.Minus (int_literal at m true)) least_int in
    subst P (sym parts.0) (subst Q (sym size) rule.least_int)
least_is unop.Plus e h units from place = cc
least_is unop.Not e h units from place = cc
least_is unop.Flip e h units from place = cc
least_is unop.Minus e h units from place = cc

signed_right : (units : List PlainUnit) (known : Known) (from : Named) (at : ℕ) (o : UnaryOp) (e : PlainExpr) → Right units known from e → (v : Value) → signed_value o e (value_in (world_of units) known from e) ≡ Some v → IsConstant units from (unary at o e) v
signed_right units known from at o e part v h =
    elim (cases_Bool (spells_least o e)) [
      | inl least ↦
          let P : Value → Type 0 = λ x. IsConstant units from (unary at o e) x in
          let found : Some least_int ≡ Some v = ap (λ b. cond b (Some least_int) (option_and_then (unary_value o) (value_in (world_of units) known from e))) (sym least) ∙ h in
          let is_it : least_int ≡ v = cc in
          subst P is_it (least_is o e least units from at)
      | inr other ↦
          let p : Passed (unary_value o) (value_in (world_of units) known from e) v = passed _ _ v (ap (λ b. cond b (Some least_int) (option_and_then (unary_value o) (value_in (world_of units) known from e))) (sym other) ∙ h) in
          rule.signed (part p.value p.given) p.gives
    ]

named_right : (units : List PlainUnit) (known : Known) → law.IsRight units known → (o : Option Field) (v : Value) → option_and_then known o ≡ Some v → (f : Field) × (o ≡ Some f) × IsConstantField units f v
named_right units known right None v h = cc
named_right units known right (Some f) v h = (f, refl, right f v h)

unnamed : (o : Option Field) → is_none o ≡ true → o ≡ None
unnamed None h = refl
unnamed (Some f) h = cc

dot_right : (units : List PlainUnit) (known : Known) → law.IsRight units known → (from : Named) (at : ℕ) (e : PlainExpr) (name : Named) (v : Value) → value_in (world_of units) known from (dot at e name) ≡ Some v → IsConstant units from (dot at e name) v
dot_right units known right from at (simple_name place x) name v h =
    elim (cases_Bool (is_none (field_of (world_of units) from x))) [
      | inl none ↦
          let found : option_and_then known (field_of (world_of units) x name) ≡ Some v = ap (λ b. cond b (option_and_then known (field_of (world_of units) x name)) None) (sym none) ∙ h in
          let named : (f : Field) × (field_of (world_of units) x name ≡ Some f) × IsConstantField units f v = named_right units known right (field_of (world_of units) x name) v found in
          rule.qualified (unnamed (field_of (world_of units) from x) none) named.1 named.2
      | inr some ↦
          let wrong : None ≡ Some v = ap (λ b. cond b (option_and_then known (field_of (world_of units) x name)) None) (sym some) ∙ h in
          absurd (cc)
    ]
dot_right units known right from at e name v h = cc

pub each_value_is_constant : law.EachValueIsConstant
each_value_is_constant units known right from (int_literal at n decimal) v h =
    let m : (x : ℤ) × (literal_value n decimal ≡ Some x) × (value.Int x ≡ v) = mapped value.Int (literal_value n decimal) v h in
    let P : Value → Type 0 = λ y. IsConstant units from (int_literal at n decimal) y in
    subst P m.2 (rule.int m.1)
each_value_is_constant units known right from (bool_literal at b) v h =
    let P : Value → Type 0 = λ y. IsConstant units from (bool_literal at b) y in
    let is_it : value.Bool b ≡ v = cc in
    subst P is_it rule.boolean
each_value_is_constant units known right from (paren at e) v h = rule.in_paren (each_value_is_constant units known right from e v h)
each_value_is_constant units known right from (unary at o e) v h = signed_right units known from at o e (each_value_is_constant units known right from e) v h
each_value_is_constant units known right from (binary at o a b) v h =
    let p : Passed (λ x. option_and_then (binary_value o x) (value_in (world_of units) known from b)) (value_in (world_of units) known from a) v = passed _ _ v h in
    let q : Passed (binary_value o p.value) (value_in (world_of units) known from b) v = passed _ _ v p.gives in
    rule.joined (each_value_is_constant units known right from a p.value p.given) (each_value_is_constant units known right from b q.value q.given) q.gives
each_value_is_constant units known right from (conditional at c a b) v h =
    let p : Passed (λ t. option_and_then (λ x. option_and_then (chosen_value t x) (value_in (world_of units) known from b)) (value_in (world_of units) known from a)) (value_in (world_of units) known from c) v = passed _ _ v h in
    let q : Passed (λ x. option_and_then (chosen_value p.value x) (value_in (world_of units) known from b)) (value_in (world_of units) known from a) v = passed _ _ v p.gives in
    let r : Passed (chosen_value p.value q.value) (value_in (world_of units) known from b) v = passed _ _ v q.gives in
    rule.chosen (each_value_is_constant units known right from c p.value p.given) (each_value_is_constant units known right from a q.value q.given)
    (each_value_is_constant units known right from b r.value r.given) r.gives
each_value_is_constant units known right from (cast at ty e) v h =
    let p : Passed (of_type (type_of ty)) (value_in (world_of units) known from e) v = passed _ _ v h in
    rule.converted (each_value_is_constant units known right from e p.value p.given) p.gives
each_value_is_constant units known right from (simple_name at x) v h =
    let named : (f : Field) × (field_of (world_of units) from x ≡ Some f) × IsConstantField units f v = named_right units known right (field_of (world_of units) from x) v h in
    rule.simple named.1 named.2
each_value_is_constant units known right from (dot at e name) v h = dot_right units known right from at e name v h
each_value_is_constant units known right from e v h = cc

-- ---- each constant is found

then_is : {A B : Type 0} (f : A → Option B) (o : Option A) (a : A) (r : Option B) → o ≡ Some a → f a ≡ r → option_and_then f o ≡ r
then_is f o a r e h = ap (option_and_then f) e ∙ h

-- the least int's digits alone are no literal
least_has_no_value : (n : ℕ) (v : Value) → option_map value.Int (literal_value n true) ≡ Some v → (n == least_size) ≡ false
least_has_no_value n v h =
    elim (cases_Bool (n == least_size)) [
      | inl size ↦
          let is_it : n ≡ least_size = search (rules, size) in
          let wrong : None ≡ Some v = ap (λ m. option_map value.Int (literal_value m true)) (sym is_it) ∙ h in
          absurd (cc)
      | inr other ↦ other
    ]

not_least_given : (o : UnaryOp) (e : PlainExpr) (units : List PlainUnit) (known : Known) (from : Named) (v : Value) → value_in (world_of units) known from e ≡ Some v → spells_least o e ≡ false
not_least_given unop.Plus e units known from v h = refl
not_least_given unop.Not e units known from v h = refl
not_least_given unop.Flip e units known from v h = refl
not_least_given unop.Minus (int_literal at n true) units known from v h = least_has_no_value n v h
not_least_given unop.Minus e units known from v h = refl

mutual
  pub each_constant_is_found : law.EachConstantIsFound
  each_constant_is_found units known whole from e v (rule.int h) = ap (option_map value.Int) h
  each_constant_is_found units known whole from e v rule.least_int = refl
  each_constant_is_found units known whole from e v rule.boolean = refl
  each_constant_is_found units known whole from e v (rule.in_paren p) = each_constant_is_found units known whole from _ v p
  each_constant_is_found units known whole from e v (rule.signed {at = at} {o = o} {e = part} {v = x} p h) =
      let given : value_in (world_of units) known from part ≡ Some x = each_constant_is_found units known whole from part x p in
      ap (λ b. cond b (Some least_int) (option_and_then (unary_value o) (value_in (world_of units) known from part))) (not_least_given o part units known from x given) ∙ then_is (unary_value o) _ x _ given h
  each_constant_is_found units known whole from e v (rule.joined {o = o} {a = a} {b = b} {x = x} {y = y} p q h) =
      then_is _ _ x _ (each_constant_is_found units known whole from a x p) (then_is _ _ y _ (each_constant_is_found units known whole from b y q) h)
  each_constant_is_found units known whole from e v (rule.chosen {c = c} {a = a} {b = b} {t = t} {x = x} {y = y} p q r h) =
      then_is _ _ t _ (each_constant_is_found units known whole from c t p) (then_is _ _ x _ (each_constant_is_found units known whole from a x q) (then_is _ _ y _ (each_constant_is_found units known whole from b y r) h))
  each_constant_is_found units known whole from e v (rule.converted {e = part} {v = x} p h) = then_is _ _ x _ (each_constant_is_found units known whole from part x p) h
  each_constant_is_found units known whole from e v (rule.simple {f = f} named field) = then_is known _ f _ named (each_field_is_found units known whole f v field)
  each_constant_is_found units known whole from e v (rule.qualified {x = x} {name = name} {f = f} none named field) =
      ap (λ o. cond (is_none o) (option_and_then known (field_of (world_of units) x name)) None) none ∙ then_is known _ f _ named (each_field_is_found units known whole f v field)

  pub each_field_is_found : law.EachConstantFieldIsFound
  each_field_is_found units known whole f v (rule.constant_variable {e = e} {v = x} final init p h) =
      whole f v
      (ap (λ b. cond b (initial_value (world_of units) known f (initialiser_of units f)) None) final
      ∙ (ap (initial_value (world_of units) known f) init ∙ then_is (of_type f.ty) _ x _ (each_constant_is_found units known whole f.class e x p) h))
