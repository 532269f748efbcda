-- A finished table has exactly the constants.
use Rattle.std.proofs.Common.{◌≡◌, ◌<◌, ◌++◌, ℕ, cond, List, [], ◌∷◌, length, Option, Some, None, refl, sym, ◌∙◌, ap, subst, inl, inr, slice_get, arith}
use Rattle.std.proofs.lemmas.Bool.{cases_Bool}
use Rattle.std.proofs.lemmas.Option.{slice_get_within}
use Rattle.std.specs.Option.{option_and_then, option_to_list, is_none}
use Rattle.bcj_parser_trees.specs.Trees.{PlainExpr, simple_name, paren, dot, unary, cast, binary, conditional, PlainOption, absent, present, PlainUnit}
use Rattle.bcj_decl_rules.specs.declared.value.Value.{Value}
use Rattle.bcj_decl_rules.specs.World.{Named, Field, World, world_of, initialiser_of}
use Rattle.bcj_decl_rules.specs.Members.{field_of}
use Rattle.bcj_decl_rules.specs.Constants.{of_type, IsConstantField, constant_variable}
use Rattle.bcj_decl_rules.specs.function.Constants.{Known, value_in, initial_value, field_value}
use Rattle.bcj_decl_soundness.specs.Laws as law
use Rattle.bcj_decl_soundness.proofs.Constants.{Passed, passed, each_value_is_constant, each_field_is_found}
use Rattle.bcj_decl_constants.specs.Needs.{fields_in, known_in, needs, qualified_needs}
use Rattle.bcj_decl_constants.specs.Numbers.{EachOnce, needs_with, worth_of, worth}
use Rattle.bcj_decl_constants.specs.Laws as own_law
use Rattle.bcj_decl_constants.specs.Laws.{AreInitialisers}
use Rattle.bcj_decl_constants.specs.Waiting.{Table, Has, Follows, follows, IsDone}
use Rattle.bcj_decl_constants.proofs.Reached.{Among, among-append, named_has}
use Rattle.bcj_decl_constants.proofs.Strictness.{Agree}
use Rattle.bcj_decl_constants.proofs.Tables.{known_at, known_is}
use Rattle.bcj_decl_constants.proofs.WorthLemmas.{worth_agrees}

worth_is : (w : World) (inits : List PlainOption) (vs : Table) (n : ℕ) (f : Field) (init : PlainOption) → slice_get (fields_in w) n ≡ Some f → slice_get inits n ≡ Some init → worth w inits vs n ≡ worth_of w (known_in (fields_in w) vs) f init
worth_is w inits vs n f init p q =
    ap (option_and_then (λ g. option_and_then (worth_of w (known_in (fields_in w) vs) g) (slice_get inits n))) p ∙ ap (option_and_then (worth_of w (known_in (fields_in w) vs) f)) q

-- ---- each value is a constant

constant_by : (units : List PlainUnit) (known : Known) → law.IsRight units known → (f : Field) (init : PlainOption) (v : Value) → initialiser_of units f ≡ init → worth_of (world_of units) known f init ≡ Some v → IsConstantField units f v
constant_by units known right f absent v e h =
    elim (cases_Bool f.is_final) [
      | inl final ↦ let wrong : None ≡ Some v = ap (λ b. cond b (initial_value (world_of units) known f absent) None) (sym final) ∙ h in absurd (cc)
      | inr other ↦ let wrong : None ≡ Some v = ap (λ b. cond b (initial_value (world_of units) known f absent) None) (sym other) ∙ h in absurd (cc)
    ]
constant_by units known right f (present x) v e h =
    elim (cases_Bool f.is_final) [
      | inl final ↦
          let p : Passed (of_type f.ty) (value_in (world_of units) known f.class x) v = passed _ _ v (ap (λ b. cond b (initial_value (world_of units) known f (present x)) None) (sym final) ∙ h) in
          constant_variable final e (each_value_is_constant units known right f.class x p.value p.given) p.gives
      | inr other ↦ let wrong : None ≡ Some v = ap (λ b. cond b (initial_value (world_of units) known f (present x)) None) (sym other) ∙ h in absurd (cc)
    ]

pub each_is_constant : (units : List PlainUnit) (inits : List PlainOption) → AreInitialisers units inits → (n : ℕ) (v : Value) → Follows (worth (world_of units) inits) n v → (f : Field) → slice_get (fields_in (world_of units)) n ≡ Some f
    → IsConstantField units f v
each_is_constant units inits own n v (follows vs each it) f at =
    let right : law.IsRight units (known_in (fields_in (world_of units)) vs) =
    λ g u h. let k : (m : ℕ) × (slice_get (fields_in (world_of units)) m ≡ Some g) × (slice_get vs m ≡ Some (Some u)) = known_at (fields_in (world_of units)) vs g u h in each_is_constant units inits own k.0 u (each k.0 u k.2) g k.1 in
    constant_by units (known_in (fields_in (world_of units)) vs) right f (initialiser_of units f) v refl (sym (worth_is (world_of units) inits vs n f (initialiser_of units f) at (own n f at)) ∙ it)

pub each_value_is_a_constant : own_law.EachValueIsAConstant
each_value_is_a_constant units inits own vs done n f v at h = each_is_constant units inits own n v (done.sound.right n v h) f at

-- ---- each constant is found

option_has : (w : World) (o : Option Field) → ((f : Field) → o ≡ Some f → Has (fields_in w) f) → Among (option_to_list o) (fields_in w)
option_has w None h = tt
option_has w (Some f) h = (h f refl, tt)

qualified_has : (w : World) (from : Named) (e : PlainExpr) (name : Named) → Among (qualified_needs w from e name) (fields_in w)
qualified_has w from (simple_name at x) name =
    let P : List Field → Type 0 = λ l. Among l (fields_in w) in
    elim (cases_Bool (is_none (field_of w from x))) [
      | inl none ↦ subst P (ap (λ b. cond b (option_to_list (field_of w x name)) []) (sym none)) (option_has w (field_of w x name) (named_has w x name))
      | inr some ↦ subst P (ap (λ b. cond b (option_to_list (field_of w x name)) []) (sym some)) tt
    ]
qualified_has w from e name = tt

needs_has : (w : World) (from : Named) (e : PlainExpr) → Among (needs w from e) (fields_in w)
needs_has w from (paren at e) = needs_has w from e
needs_has w from (unary at o e) = needs_has w from e
needs_has w from (binary at o a b) = among-append (needs w from a) (needs w from b) (fields_in w) (needs_has w from a) (needs_has w from b)
needs_has w from (conditional at c a b) =
    among-append (needs w from c) (needs w from a ++ needs w from b) (fields_in w) (needs_has w from c) (among-append (needs w from a) (needs w from b) (fields_in w) (needs_has w from a) (needs_has w from b))
needs_has w from (cast at ty e) = needs_has w from e
needs_has w from (simple_name at x) = option_has w (field_of w from x) (named_has w from x)
needs_has w from (dot at e name) = qualified_has w from e name
needs_has w from e = tt

with_has : (w : World) (f : Field) (init : PlainOption) → Among (needs_with w f init) (fields_in w)
with_has w f absent = tt
with_has w f (present e) =
    let P : List Field → Type 0 = λ l. Among l (fields_in w) in
    elim (cases_Bool f.is_final) [
      | inl final ↦ subst P (ap (λ b. cond b (needs w f.class e) []) (sym final)) (needs_has w f.class e)
      | inr other ↦ subst P (ap (λ b. cond b (needs w f.class e) []) (sym other)) tt
    ]

among_agree : (known other : Known) (fs gs : List Field) → ((f : Field) → Has gs f → known f ≡ other f) → Among fs gs → Agree known other fs
among_agree known other [] gs same h = tt
among_agree known other (f ∷ fs) gs same h = (same f h.0, among_agree known other fs gs same h.1)

-- what the table says of a field of the world is what the field is worth by it
table_says : (units : List PlainUnit) (inits : List PlainOption) → EachOnce (fields_in (world_of units)) → AreInitialisers units inits → (vs : Table) → IsDone (worth (world_of units) inits) (length (fields_in (world_of units))) vs
    → (n : ℕ) (f : Field) → slice_get (fields_in (world_of units)) n ≡ Some f → slice_get vs n ≡ Some (field_value units (known_in (fields_in (world_of units)) vs) f)
table_says units inits once own vs done n f at =
    let below : n < length (fields_in (world_of units)) = slice_get_within (fields_in (world_of units)) n f at in
    let within : n < length vs = omega (arith, done.many) in
    done.fixed n within ∙ ap Some (worth_is (world_of units) inits vs n f (initialiser_of units f) at (own n f at))

pub each_constant_is_there : own_law.EachConstantIsThere
each_constant_is_there units inits once own vs done n f v at constant =
    let w : World = world_of units in
    let known : Known = known_in (fields_in w) vs in
    let same : (g : Field) → Has (fields_in w) g → field_value units known g ≡ known g =
    λ g h. sym (known_is (fields_in w) vs h.0 g (field_value units known g) once h.1 (table_says units inits once own vs done h.0 g h.1)) in
    let whole : law.IsWhole units (field_value units known) =
    λ g u h. worth_agrees w known (field_value units known) g (initialiser_of units g) (among_agree known (field_value units known) (needs_with w g (initialiser_of units g)) (fields_in w) (λ x y. sym (same x y)) (with_has w g (initialiser_of units g))) ∙ h in
    table_says units inits once own vs done n f at ∙ ap Some (each_field_is_found units (field_value units known) whole f v constant)
