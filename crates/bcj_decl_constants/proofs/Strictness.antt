-- A value needs the values of all fields that an expression names, and hangs on no others.
use Rattle.std.proofs.Common.{◌≡◌, ◌++◌, ℕ, inl, inr, subst, true, cond, List, [], ◌∷◌, Option, Some, None, refl, sym, ◌∙◌, ap}
use Rattle.std.proofs.lemmas.Bool.{cases_Bool}
use Rattle.std.specs.Option.{option_and_then, option_to_list, is_none}
use Rattle.bcj_parser_trees.specs.declared.expression.UnaryOp.{UnaryOp}
use Rattle.bcj_parser_trees.specs.declared.expression.UnaryOp.TheVariants as unop
use Rattle.bcj_parser_trees.specs.Trees.{PlainExpr, int_literal, simple_name, paren, dot, unary, cast, binary, conditional}
use Rattle.bcj_decl_rules.specs.declared.value.Value.{Value}
use Rattle.bcj_decl_rules.specs.World.{Named, Field, World, type_of}
use Rattle.bcj_decl_rules.specs.Members.{field_of}
use Rattle.bcj_decl_rules.specs.Constants.{unary_value, binary_value, chosen_value, of_type}
use Rattle.bcj_decl_rules.specs.function.Constants.{Known, spells_least, least_int, signed_value, value_in, value_of_field}
use Rattle.bcj_decl_soundness.proofs.Constants.{Passed, passed}
use Rattle.bcj_decl_constants.specs.Needs.{needs, qualified_needs}

-- each of the fields has a value
abbrev pub AllKnown : Known → List Field → Type 0
AllKnown known [] = Unit {0}
AllKnown known (f ∷ fs) = ((v : Value) × (known f ≡ Some v)) × AllKnown known fs

pub all_known-append : (known : Known) (fs gs : List Field) → AllKnown known fs → AllKnown known gs → AllKnown known (fs ++ gs)
all_known-append known [] gs p q = q
all_known-append known (f ∷ fs) gs p q = (p.0, all_known-append known fs gs p.1 q)

-- of each of the fields both tables say the same
abbrev pub Agree : Known → Known → List Field → Type 0
Agree known other [] = Unit {0}
Agree known other (f ∷ fs) = (known f ≡ other f) × Agree known other fs

pub agree-first : (known other : Known) (fs gs : List Field) → Agree known other (fs ++ gs) → Agree known other fs
agree-first known other [] gs p = tt
agree-first known other (f ∷ fs) gs p = (p.0, agree-first known other fs gs p.1)

pub agree-second : (known other : Known) (fs gs : List Field) → Agree known other (fs ++ gs) → Agree known other gs
agree-second known other [] gs p = p
agree-second known other (f ∷ fs) gs p = agree-second known other fs gs p.1

-- ---- strictness

known_of_option : (known : Known) (o : Option Field) (v : Value) → value_of_field known o ≡ Some v → AllKnown known (option_to_list o)
known_of_option known None v h = cc
known_of_option known (Some f) v h = ((v, h), tt)

least_needs_none : (w : World) (known : Known) (from : Named) (o : UnaryOp) (e : PlainExpr) → spells_least o e ≡ true → AllKnown known (needs w from e)
least_needs_none w known from unop.Minus (int_literal at n decimal) h = tt
least_needs_none w known from unop.Plus e h = cc
least_needs_none w known from unop.Not e h = cc
least_needs_none w known from unop.Flip e h = cc
least_needs_none w known from unop.Minus e h = cc

signed_strict : (w : World) (known : Known) (from : Named) (o : UnaryOp) (e : PlainExpr) → ((v : Value) → value_in w known from e ≡ Some v → AllKnown known (needs w from e)) → (v : Value)
    → signed_value o e (value_in w known from e) ≡ Some v → AllKnown known (needs w from e)
signed_strict w known from o e part v h =
    elim (cases_Bool (spells_least o e)) [
      | inl least ↦ least_needs_none w known from o e least
      | inr other ↦
          let p : Passed (unary_value o) (value_in w known from e) v = passed _ _ v (ap (λ b. cond b (Some least_int) (option_and_then (unary_value o) (value_in w known from e))) (sym other) ∙ h) in
          part p.value p.given
    ]

dot_strict : (w : World) (known : Known) (from : Named) (at : ℕ) (e : PlainExpr) (name : Named) (v : Value) → value_in w known from (dot at e name) ≡ Some v → AllKnown known (qualified_needs w from e name)
dot_strict w known from at (simple_name place x) name v h =
    elim (cases_Bool (is_none (field_of w from x))) [
      | inl none ↦
          let found : value_of_field known (field_of w x name) ≡ Some v = ap (λ b. cond b (value_of_field known (field_of w x name)) None) (sym none) ∙ h in
          let P : List Field → Type 0 = AllKnown known in
          subst P (ap (λ b. cond b (option_to_list (field_of w x name)) []) (sym none)) (known_of_option known (field_of w x name) v found)
      | inr some ↦
          let wrong : None ≡ Some v = ap (λ b. cond b (value_of_field known (field_of w x name)) None) (sym some) ∙ h in
          absurd (cc)
    ]
dot_strict w known from at e name v h = tt

pub strict : (w : World) (known : Known) (from : Named) (e : PlainExpr) (v : Value) → value_in w known from e ≡ Some v → AllKnown known (needs w from e)
strict w known from (paren at e) v h = strict w known from e v h
strict w known from (unary at o e) v h = signed_strict w known from o e (strict w known from e) v h
strict w known from (binary at o a b) v h =
    let p : Passed (λ x. option_and_then (binary_value o x) (value_in w known from b)) (value_in w known from a) v = passed _ _ v h in
    let q : Passed (binary_value o p.value) (value_in w known from b) v = passed _ _ v p.gives in
    all_known-append known (needs w from a) (needs w from b) (strict w known from a p.value p.given) (strict w known from b q.value q.given)
strict w known from (conditional at c a b) v h =
    let p : Passed (λ t. option_and_then (λ x. option_and_then (chosen_value t x) (value_in w known from b)) (value_in w known from a)) (value_in w known from c) v = passed _ _ v h in
    let q : Passed (λ x. option_and_then (chosen_value p.value x) (value_in w known from b)) (value_in w known from a) v = passed _ _ v p.gives in
    let r : Passed (chosen_value p.value q.value) (value_in w known from b) v = passed _ _ v q.gives in
    all_known-append known (needs w from c) (needs w from a ++ needs w from b) (strict w known from c p.value p.given)
    (all_known-append known (needs w from a) (needs w from b) (strict w known from a q.value q.given) (strict w known from b r.value r.given))
strict w known from (cast at ty e) v h =
    let p : Passed (of_type (type_of ty)) (value_in w known from e) v = passed _ _ v h in
    strict w known from e p.value p.given
strict w known from (simple_name at x) v h = known_of_option known (field_of w from x) v h
strict w known from (dot at e name) v h = dot_strict w known from at e name v h
strict w known from e v h = tt

-- ---- agreement

same_of_option : (known other : Known) (o : Option Field) → Agree known other (option_to_list o) → value_of_field known o ≡ value_of_field other o
same_of_option known other None p = refl
same_of_option known other (Some f) p = p.0

dot_agrees : (w : World) (known other : Known) (from : Named) (at : ℕ) (e : PlainExpr) (name : Named) → Agree known other (qualified_needs w from e name)
    → value_in w known from (dot at e name) ≡ value_in w other from (dot at e name)
dot_agrees w known other from at (simple_name place x) name p =
    elim (cases_Bool (is_none (field_of w from x))) [
      | inl none ↦
          let P : List Field → Type 0 = Agree known other in
          let named : Agree known other (option_to_list (field_of w x name)) = subst P (ap (λ b. cond b (option_to_list (field_of w x name)) []) none) p in
          ap (λ b. cond b (value_of_field known (field_of w x name)) None) none ∙ (same_of_option known other (field_of w x name) named ∙ ap (λ b. cond b (value_of_field other (field_of w x name)) None) (sym none))
      | inr some ↦ ap (λ b. cond b (value_of_field known (field_of w x name)) None) some ∙ ap (λ b. cond b (value_of_field other (field_of w x name)) None) (sym some)
    ]
dot_agrees w known other from at e name p = refl

pub agrees : (w : World) (known other : Known) (from : Named) (e : PlainExpr) → Agree known other (needs w from e) → value_in w known from e ≡ value_in w other from e
agrees w known other from (paren at e) p = agrees w known other from e p
agrees w known other from (unary at o e) p = ap (signed_value o e) (agrees w known other from e p)
agrees w known other from (binary at o a b) p =
    let first : value_in w known from a ≡ value_in w other from a = agrees w known other from a (agree-first known other (needs w from a) (needs w from b) p) in
    let second : value_in w known from b ≡ value_in w other from b = agrees w known other from b (agree-second known other (needs w from a) (needs w from b) p) in
    ap (λ l. option_and_then (λ x. option_and_then (binary_value o x) l) (value_in w known from a)) second ∙ ap (option_and_then (λ x. option_and_then (binary_value o x) (value_in w other from b))) first
agrees w known other from (conditional at c a b) p =
    let rest : Agree known other (needs w from a ++ needs w from b) = agree-second known other (needs w from c) (needs w from a ++ needs w from b) p in
    let test : value_in w known from c ≡ value_in w other from c = agrees w known other from c (agree-first known other (needs w from c) (needs w from a ++ needs w from b) p) in
    let first : value_in w known from a ≡ value_in w other from a = agrees w known other from a (agree-first known other (needs w from a) (needs w from b) rest) in
    let second : value_in w known from b ≡ value_in w other from b = agrees w known other from b (agree-second known other (needs w from a) (needs w from b) rest) in
    ap (λ l. option_and_then (λ t. option_and_then (λ x. option_and_then (chosen_value t x) l) (value_in w known from a)) (value_in w known from c)) second
    ∙ (ap (λ l. option_and_then (λ t. option_and_then (λ x. option_and_then (chosen_value t x) (value_in w other from b)) l) (value_in w known from c)) first
    ∙ ap (option_and_then (λ t. option_and_then (λ x. option_and_then (chosen_value t x) (value_in w other from b)) (value_in w other from a))) test)
agrees w known other from (cast at ty e) p = ap (option_and_then (of_type (type_of ty))) (agrees w known other from e p)
agrees w known other from (simple_name at x) p = same_of_option known other (field_of w from x) p
agrees w known other from (dot at e name) p = dot_agrees w known other from at e name p
agrees w known other from e p = refl
