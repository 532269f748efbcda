-- A field that a name means is one of the world's.
use Rattle.std.proofs.Common.{◌≡◌, ◌++◌, ℕ, zero, suc, Bool, true, cond, List, [], ◌∷◌, Option, Some, None, refl, sym, ◌∙◌, ap, subst, inl, inr, filter, length}
use Rattle.std.proofs.lemmas.Bool.{cases_Bool}
use Rattle.std.specs.List.{find, flat_map}
use Rattle.std.specs.Option.{option_and_then}
use Rattle.bcj_decl_rules.specs.World.{Named, Field, Declared, World, type_named, is_named}
use Rattle.bcj_decl_rules.specs.Members.{Visit, steps_on, superclasses_above, interfaces_above, class_chain, visits, visit_of, fields_at, field_of}
use Rattle.bcj_decl_constants.specs.Needs.{fields_in}
use Rattle.bcj_decl_constants.specs.Waiting.{Has}

pub has-next : {A : Type 0} (y : A) (xs : List A) (x : A) → Has xs x → Has (y ∷ xs) x
has-next y xs x h = (suc h.0, h.1)

pub has-first : {A : Type 0} (xs ys : List A) (x : A) → Has xs x → Has (xs ++ ys) x
has-first [] ys x h = absurd (cc (h.1))
has-first (y ∷ xs) ys x (zero, h) = (0, h)
has-first (y ∷ xs) ys x (suc n, h) = has-next y (xs ++ ys) x (has-first xs ys x (n, h))

pub has-second : {A : Type 0} (xs ys : List A) (x : A) → Has ys x → Has (xs ++ ys) x
has-second [] ys x h = h
has-second (y ∷ xs) ys x h = has-next y (xs ++ ys) x (has-second xs ys x h)

-- each of the list is one of the others
abbrev pub Among : {A : Type 0} → List A → List A → Type 0
Among [] ys = Unit {0}
Among (x ∷ xs) ys = Has ys x × Among xs ys

pub among-append : {A : Type 0} (xs xss ys : List A) → Among xs ys → Among xss ys → Among (xs ++ xss) ys
among-append [] xss ys p q = q
among-append (x ∷ xs) xss ys p q = (p.0, among-append xs xss ys p.1 q)

pub among-flat_map : {A B : Type 0} (f : A → List B) (xs : List A) (ys : List B) → ((x : A) → Has xs x → Among (f x) ys) → Among (flat_map f xs) ys
among-flat_map f [] ys each = tt
among-flat_map f (x ∷ xs) ys each = among-append (f x) (flat_map f xs) ys (each x (0, refl)) (among-flat_map f xs ys (λ y h. each y (has-next x xs y h)))

pub among-filter : {A : Type 0} (p : A → Bool) (xs ys : List A) → ((x : A) → Has xs x → Has ys x) → Among (filter p xs) ys
among-filter p [] ys each = tt
among-filter {A = A} p (x ∷ xs) ys each =
    let rest : Among (filter p xs) ys = among-filter p xs ys (λ y h. each y (has-next x xs y h)) in
    let P : List A → Type 0 = λ l. Among l ys in
    elim (cases_Bool (p x)) [
      | inl passes ↦ subst P (ap (λ b. cond b (x ∷ filter p xs) (filter p xs)) (sym passes)) (each x (0, refl), rest)
      | inr other ↦ subst P (ap (λ b. cond b (x ∷ filter p xs) (filter p xs)) (sym other)) rest
    ]

pub has-flat_map : {A B : Type 0} (f : A → List B) (xs : List A) (x : A) (y : B) → Has xs x → Has (f x) y → Has (flat_map f xs) y
has-flat_map f [] x y h q = absurd (cc (h.1))
has-flat_map f (z ∷ xs) x y (zero, h) q =
    let is_it : z ≡ x = cc in
    has-first (f z) (flat_map f xs) y (subst (λ a. Has (f a) y) (sym is_it) q)
has-flat_map f (z ∷ xs) x y (suc n, h) q = has-second (f z) (flat_map f xs) y (has-flat_map f xs x y (n, h) q)

pub found_has : (w : World) (name : Named) (t : Declared) → type_named w name ≡ Some t → Has w t
found_has [] name t h = absurd (cc)
found_has (u ∷ us) name t h =
    elim (cases_Bool (is_named name u)) [
      | inl here_it ↦ (0, ap (λ b. cond b (Some u) (type_named us name)) (sym here_it) ∙ h)
      | inr other ↦ has-next u us t (found_has us name t (ap (λ b. cond b (Some u) (type_named us name)) (sym other) ∙ h))
    ]

-- the types of all visits are the world's
abbrev pub InWorld : World → List Visit → Type 0
InWorld w vs = (v : Visit) → Has vs v → Has w v.type

in_world-append : (w : World) (vs us : List Visit) → InWorld w vs → InWorld w us → InWorld w (vs ++ us)
in_world-append w [] us p q v h = q v h
in_world-append w (x ∷ vs) us p q v (zero, h) = p v (zero, h)
in_world-append w (x ∷ vs) us p q v (suc n, h) = in_world-append w vs us (λ y k. p y (has-next x vs y k)) q v (n, h)

in_world-cons : (w : World) (x : Visit) (vs : List Visit) → Has w x.type → InWorld w vs → InWorld w (x ∷ vs)
in_world-cons w x vs p q v (zero, h) =
    let is_it : x ≡ v = cc in
    subst (λ y. Has w y.type) is_it p
in_world-cons w x vs p q v (suc n, h) = q v (n, h)

in_world-flat_map : {A : Type 0} (w : World) (f : A → List Visit) (xs : List A) → ((x : A) → InWorld w (f x)) → InWorld w (flat_map f xs)
in_world-flat_map w f [] each v h = absurd (cc (h.1))
in_world-flat_map w f (x ∷ xs) each v h = in_world-append w (f x) (flat_map f xs) (each x) (in_world-flat_map w f xs each) v h

superclass_step : (n : ℕ) (w : World) (way : List Declared) (o : Option Declared) → ((t : Declared) → o ≡ Some t → Has w t) → ((way : List Declared) (name : Option Named) → InWorld w (superclasses_above n w way name))
    → InWorld w (elim o [ None ↦ [] | Some t ↦ record { type = t; way = way } ∷ superclasses_above n w (steps_on way t) t.superclass ])
superclass_step n w way None is rest = λ v h. absurd (cc (h.1))
superclass_step n w way (Some t) is rest = in_world-cons w (record { type = t; way = way }) (superclasses_above n w (steps_on way t) t.superclass) (is t refl) (rest (steps_on way t) t.superclass)

superclasses_in : (n : ℕ) (w : World) (way : List Declared) (name : Option Named) → InWorld w (superclasses_above n w way name)
superclasses_in zero w way name = λ v h. absurd (cc (h.1))
superclasses_in (suc n) w way None = λ v h. absurd (cc (h.1))
superclasses_in (suc n) w way (Some name) = superclass_step n w way (type_named w name) (found_has w name) (superclasses_in n w)

interface_step : (n : ℕ) (w : World) (way : List Declared) (o : Option Declared) → ((t : Declared) → o ≡ Some t → Has w t) → ((way : List Declared) (names : List Named) → InWorld w (interfaces_above n w way names))
    → InWorld w (elim o [ None ↦ [] | Some t ↦ record { type = t; way = way } ∷ interfaces_above n w (steps_on way t) t.interfaces ])
interface_step n w way None is rest = λ v h. absurd (cc (h.1))
interface_step n w way (Some t) is rest = in_world-cons w (record { type = t; way = way }) (interfaces_above n w (steps_on way t) t.interfaces) (is t refl) (rest (steps_on way t) t.interfaces)

interfaces_in : (n : ℕ) (w : World) (way : List Declared) (names : List Named) → InWorld w (interfaces_above n w way names)
interfaces_in zero w way names = λ v h. absurd (cc (h.1))
interfaces_in (suc n) w way names = in_world-flat_map w _ names (λ name. interface_step n w way (type_named w name) (found_has w name) (interfaces_in n w))

chain_in : (w : World) (t : Declared) → Has w t → InWorld w (class_chain w t)
chain_in w t h = in_world-cons w (visit_of t) _ h (superclasses_in _ w (t ∷ []) t.superclass)

visits_in : (w : World) (t : Declared) → Has w t → InWorld w (visits w t)
visits_in w t h =
    let over : Visit → List Visit = λ v. interfaces_above (length w) w (steps_on v.way v.type) v.type.interfaces in
    in_world-append w (class_chain w t) (flat_map over (class_chain w t)) (chain_in w t h)
    (in_world-flat_map w over (class_chain w t) (λ v. interfaces_in (length w) w (steps_on v.way v.type) v.type.interfaces))

first_is : {A : Type 0} (xs ys : List A) (x : A) → Among xs ys → find (λ f. true) xs ≡ Some x → Has ys x
first_is [] ys x p h = absurd (cc)
first_is (y ∷ xs) ys x p h =
    let is_it : y ≡ x = cc in
    subst (λ a. Has ys a) is_it p.0

field_in_visits : (w : World) (name : Named) (o : Option Declared) → ((t : Declared) → o ≡ Some t → Has w t) → (f : Field) → option_and_then (λ t. find (λ g. true) (flat_map (fields_at name) (visits w t))) o ≡ Some f → Has (fields_in w) f
field_in_visits w name None is f h = absurd (cc)
field_in_visits w name (Some t) is f h =
    first_is (flat_map (fields_at name) (visits w t)) (fields_in w) f
    (among-flat_map (fields_at name) (visits w t) (fields_in w) (λ v q. among-filter _ v.type.fields (fields_in w) (λ g k. has-flat_map (λ u. u.fields) w v.type g (visits_in w t (is t refl) v q) k)))
    h

pub named_has : (w : World) (class name : Named) (f : Field) → field_of w class name ≡ Some f → Has (fields_in w) f
unfolding field_of
named_has w class name f h = field_in_visits w name (type_named w class) (found_has w class) f h
