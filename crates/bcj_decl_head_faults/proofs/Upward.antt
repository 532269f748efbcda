-- The class chain, searched step by step.
use Rattle.std.proofs.Common.{◌≡◌, List, [], ◌∷◌, ℕ, zero, suc, Bool, refl, sym, ◌∙◌, ap, Option, None, Some, length}
use Rattle.std.proofs.lemmas.List.Folds.{find-append}
use Rattle.std.specs.List.{find, flat_map}
use Rattle.std.specs.Option.{option_or, option_and_then}
use Rattle.bcj_decl_rules.specs.World.{Named, Method, Declared, World, type_named}
use Rattle.bcj_decl_rules.specs.Members.{Visit, visit_of, steps_on, superclasses_above}
use Rattle.bcj_decl_rules.specs.Faults.{can_implement, implementation}

-- the superclass of a type
abbrev pub class_over : World → Declared → Option Declared
class_over w t = option_and_then (type_named w) t.superclass

-- the first method of a kind that the type or one of so many superclasses declares
abbrev pub search_up : (Method → Bool) → ℕ → World → Declared → Option Method
search_up p zero w t = find p t.methods
search_up p (suc n) w t = option_or (find p t.methods) (elim (class_over w t) [ None ↦ None | Some u ↦ search_up p n w u ])

abbrev visit_methods : List Visit → List Method
visit_methods vs = flat_map (λ v. v.type.methods) vs

-- the search behind a type
abbrev search_over : (Method → Bool) → ℕ → World → Option Declared → Option Method
search_over p n w None = None
search_over p n w (Some u) = search_up p n w u

abbrev Ends : (Method → Bool) → ℕ → World → Type 0
Ends p n w = (t : Declared) (v : Visit) (way : List Declared) → v.type ≡ t → find p (visit_methods (v ∷ superclasses_above n w way t.superclass)) ≡ search_up p n w t

found_in_visit : (p : Method → Bool) (t : Declared) (v : Visit) (rest : List Visit) (o : Option Method) → v.type ≡ t → find p (visit_methods rest) ≡ o
    → find p (visit_methods (v ∷ rest)) ≡ option_or (find p t.methods) o
found_in_visit p t v rest o it e =
    find-append p v.type.methods (visit_methods rest) ∙ (ap (option_or (find p v.type.methods)) e ∙ ap (λ u. option_or (find p u.methods) o) it)

over_named : (p : Method → Bool) (n : ℕ) (w : World) → Ends p n w → (way : List Declared) (name : Named) (o : Option Declared) → type_named w name ≡ o
    → find p (visit_methods (superclasses_above (suc n) w way (Some name))) ≡ search_over p n w o
over_named p n w again way name None e =
    ap (λ u. find p (visit_methods (elim u [ None ↦ [] | Some t ↦ record { type = t; way = way } ∷ superclasses_above n w (steps_on way t) t.superclass ]))) e
over_named p n w again way name (Some u) e =
    ap (λ u. find p (visit_methods (elim u [ None ↦ [] | Some t ↦ record { type = t; way = way } ∷ superclasses_above n w (steps_on way t) t.superclass ]))) e
    ∙ again u (record { type = u; way = way }) (steps_on way u) refl

over_option : (p : Method → Bool) (n : ℕ) (w : World) → Ends p n w → (way : List Declared) (o : Option Named)
    → find p (visit_methods (superclasses_above (suc n) w way o)) ≡ search_over p n w (option_and_then (type_named w) o)
over_option p n w again way None = refl
over_option p n w again way (Some name) = over_named p n w again way name (type_named w name) refl

over_same : (p : Method → Bool) (n : ℕ) (w : World) (o : Option Declared) → search_over p n w o ≡ elim o [ None ↦ None | Some u ↦ search_up p n w u ]
over_same p n w None = refl
over_same p n w (Some u) = refl

option_or-none : (o : Option Method) → option_or o None ≡ o
option_or-none None = refl
option_or-none (Some m) = refl

ends : (p : Method → Bool) (n : ℕ) (w : World) → Ends p n w
ends p zero w t v way it = found_in_visit p t v [] None it refl ∙ option_or-none (find p t.methods)
ends p (suc n) w t v way it =
    found_in_visit p t v (superclasses_above (suc n) w way t.superclass) _ it (over_option p n w (ends p n w) way t.superclass ∙ over_same p n w (class_over w t))

pub implementation_found : (w : World) (t : Declared) (m : Method) → search_up (can_implement m) (length w) w t ≡ implementation w t m
implementation_found w t m = sym (ends (can_implement m) (length w) w t (visit_of t) (t ∷ []) refl)

-- found in the type itself
pub up_found : (p : Method → Bool) (n : ℕ) (w : World) (t : Declared) (m : Method) → Some m ≡ find p t.methods → Some m ≡ search_up p n w t
up_found p zero w t m e = e
up_found p (suc n) w t m e = ap (λ o. option_or o (elim (class_over w t) [ None ↦ None | Some u ↦ search_up p n w u ])) e

-- no superclass
pub up_ends : (p : Method → Bool) (n : ℕ) (w : World) (t : Declared) → None ≡ find p t.methods → None ≡ class_over w t → None ≡ search_up p n w t
up_ends p zero w t e none = e
up_ends p (suc n) w t e none =
    ap (λ o. elim o [ None ↦ None | Some u ↦ search_up p n w u ]) none ∙ ap (λ o. option_or o (elim (class_over w t) [ None ↦ None | Some u ↦ search_up p n w u ])) e

-- one superclass further
pub up_next : (p : Method → Bool) (n : ℕ) (w : World) (t u : Declared) → None ≡ find p t.methods → Some u ≡ class_over w t → search_up p n w u ≡ search_up p (suc n) w t
up_next p n w t u e some =
    ap (λ o. elim o [ None ↦ None | Some u ↦ search_up p n w u ]) some ∙ ap (λ o. option_or o (elim (class_over w t) [ None ↦ None | Some u ↦ search_up p n w u ])) e
