-- What the searches for members find is declared by a type that steps lead to.
use Rattle.std.proofs.Common.{◌≡◌, ◌<◌, List, [], ◌∷◌, ◌++◌, find, Contains, Option, Some, None, Bool, true, cond, ◌⊎◌, refl, sym, ◌∙◌, ap, subst, ℕ, zero, suc, length, inl, inr, arith, option_map}
use Rattle.std.proofs.lemmas.Bool.{cases_Bool}
use Rattle.std.specs.Option.{option_or}
use Rattle.bcj_hier_rules.specs.Shapes.{Named, Shape, Mixture, found, is_field, is_method}
use Rattle.bcj_hier_rules.specs.Loading.{Super, superclass, interface}
use Rattle.bcj_hier_rules.specs.Resolution.{FoundField, FoundMethod, field_there, method_there, first_of, of_option, field_within, class_method_within, interface_method_within, inherited_within}
use Rattle.bcj_hier_soundness.specs.Laws.{IsMember, Reaches, at_once, onward}
use Rattle.bcj_hier_soundness.proofs.Names.{found_name}

-- ---- searches that find

pub or_some : {A : Type 0} (a b : Option A) (x : A) → option_or a b ≡ Some x → (a ≡ Some x) ⊎ (b ≡ Some x)
or_some None b x h = inr h
or_some (Some y) b x h = inl h

-- what a function makes of a value that is there
pub record Made {A B : Type 0} (f : A → B) (o : Option A) (y : B) : Type 0 where
  pub value : A
  pub given : o ≡ Some value
  pub gives : f value ≡ y

pub made : {A B : Type 0} (f : A → B) (o : Option A) (y : B) → option_map f o ≡ Some y → Made f o y
made f None y h = cc
made f (Some x) y h = record { value = x; given = refl; gives = ap (λ o. elim o [ None ↦ f x | Some z ↦ z ]) h }

-- an element that passes the test
record Passing {A : Type 0} (test : A → Bool) (xs : List A) (x : A) : Type 0 where
  place : Contains xs x
  passes : test x ≡ true

passing : {A : Type 0} (test : A → Bool) (xs : List A) (x : A) → find test xs ≡ Some x → Passing test xs x
passing test [] x h = cc
passing test (y ∷ ys) x h =
    elim (cases_Bool (test y)) [
      | inl it ↦
          let here_it : Some y ≡ Some x = ap (λ b. cond b (Some y) (find test ys)) (sym it) ∙ h in
          let is_it : y ≡ x = cc in
          record { place = (0, omega arith, is_it); passes = ap test (sym is_it) ∙ it }
      | inr other ↦
          let rest : Passing test ys x = passing test ys x (ap (λ b. cond b (Some y) (find test ys)) (sym other) ∙ h) in
          let inside : rest.place.0 < length ys = rest.place.1 in
          record { place = (suc rest.place.0, omega arith, rest.place.2); passes = rest.passes }
    ]

-- the first of names that answers, where it stands
record Answering {A : Type 0} (f : Named → Option A) (names : List Named) (x : A) : Type 0 where
  name : Named
  front : List Named
  back : List Named
  whole : names ≡ front ++ name ∷ back
  answer : f name ≡ Some x

answering : {A : Type 0} (f : Named → Option A) (names : List Named) (x : A) → first_of f names ≡ Some x → Answering f names x
answering f [] x h = cc
answering f (n ∷ ns) x h =
    elim (or_some (f n) (first_of f ns) x h) [
      | inl it ↦ record { name = n; front = []; back = ns; whole = refl; answer = it }
      | inr other ↦
          let rest : Answering f ns x = answering f ns x other in
          record { name = rest.name; front = n ∷ rest.front; back = rest.back; whole = ap (λ l. n ∷ l) rest.whole; answer = rest.answer }
    ]

-- ---- members

-- a member that the type itself declares
pub own : {A : Type 0} (m : Mixture) (members : Shape → List A) (fits : A → Bool) (t : Named) (s : Shape) → found m t ≡ Some s → (x : A) → find fits (members s) ≡ Some x
    → IsMember m members fits t s.head.name x
own m members fits t s e x h =
    let name : s.head.name ≡ t = found_name m t s e in
    let p : Passing fits (members s) x = passing fits (members s) x h in
    let P : Named → Type 0 = λ d. Reaches m t d in
    record { shape = s; is_it = ap (found m) name ∙ e; declares = p.place; is_meant = p.passes; reached = subst P (sym name) (at_once e) }

-- a member that is reached by a step more
above : {A : Type 0} (m : Mixture) (members : Shape → List A) (fits : A → Bool) (t p d : Named) (s : Shape) (x : A) → found m t ≡ Some s → Super s p → IsMember m members fits p d x
    → IsMember m members fits t d x
above m members fits t p d s x e up i = record { shape = i.shape; is_it = i.is_it; declares = i.declares; is_meant = i.is_meant; reached = onward e up i.reached }

-- ---- fields

abbrev pub IsField : Mixture → Named → List ℕ → Named → FoundField → Type 0
IsField m name desc t f = IsMember m (λ s. s.fields) (is_field name desc) t f.class f.field

abbrev FindsFields : Mixture → ℕ → Named → List ℕ → Type 0
FindsFields m n name desc = (t : Named) (f : FoundField) → field_within m n name desc t ≡ Some f → IsField m name desc t f

own_field : (m : Mixture) (name : Named) (desc : List ℕ) (t : Named) (s : Shape) → found m t ≡ Some s → (f : FoundField) → option_map (field_there s) (find (is_field name desc) s.fields) ≡ Some f → IsField m name desc t f
own_field m name desc t s e f h =
    let i : Made (field_there s) (find (is_field name desc) s.fields) f = made (field_there s) (find (is_field name desc) s.fields) f h in
    let P : FoundField → Type 0 = λ g. IsField m name desc t g in
    subst P i.gives (own m (λ v. v.fields) (is_field name desc) t s e i.value i.given)

field_of_interface : (m : Mixture) (n : ℕ) (name : Named) (desc : List ℕ) → FindsFields m n name desc → (t : Named) (s : Shape) → found m t ≡ Some s → (f : FoundField)
    → first_of (field_within m n name desc) s.head.interfaces ≡ Some f → IsField m name desc t f
field_of_interface m n name desc again t s e f h =
    let a : Answering (field_within m n name desc) s.head.interfaces f = answering (field_within m n name desc) s.head.interfaces f h in
    above m (λ v. v.fields) (is_field name desc) t a.name f.class s f.field e (interface a.front a.back a.whole) (again a.name f a.answer)

field_of_superclass : (m : Mixture) (n : ℕ) (name : Named) (desc : List ℕ) → FindsFields m n name desc → (t : Named) (s : Shape) → found m t ≡ Some s → (f : FoundField) (o : Option Named) → s.head.superclass ≡ o
    → of_option (field_within m n name desc) o ≡ Some f → IsField m name desc t f
field_of_superclass m n name desc again t s e f None up h = cc
field_of_superclass m n name desc again t s e f (Some p) up h = above m (λ v. v.fields) (is_field name desc) t p f.class s f.field e (superclass up) (again p f h)

abbrev field_at : Mixture → ℕ → Named → List ℕ → Option Shape → Option FoundField
field_at m n name desc o =
    elim o [
      | None ↦ None
      | Some s ↦ option_or (option_map (field_there s) (find (is_field name desc) s.fields))
          (option_or (first_of (field_within m n name desc) s.head.interfaces) (of_option (field_within m n name desc) s.head.superclass))
    ]

field_found : (m : Mixture) (n : ℕ) (name : Named) (desc : List ℕ) → FindsFields m n name desc → (t : Named) (f : FoundField) (o : Option Shape) → found m t ≡ o → field_at m n name desc o ≡ Some f → IsField m name desc t f
field_found m n name desc again t f None e h = cc
field_found m n name desc again t f (Some s) e h =
    let search_up : Named → Option FoundField = field_within m n name desc in
    elim (or_some (option_map (field_there s) (find (is_field name desc) s.fields)) (option_or (first_of search_up s.head.interfaces) (of_option search_up s.head.superclass)) f h) [
      | inl it ↦ own_field m name desc t s e f it
      | inr other ↦
          elim (or_some (first_of search_up s.head.interfaces) (of_option search_up s.head.superclass) f other)
          [ inl beside ↦ field_of_interface m n name desc again t s e f beside | inr up ↦ field_of_superclass m n name desc again t s e f s.head.superclass refl up ]
    ]

-- what a search for fields finds is one
pub fields_found : (m : Mixture) (n : ℕ) (name : Named) (desc : List ℕ) → FindsFields m n name desc
fields_found m zero name desc t f h = cc
fields_found m (suc n) name desc t f h = field_found m n name desc (fields_found m n name desc) t f (found m t) refl h

-- ---- methods

abbrev pub IsMethod : Mixture → Named → List ℕ → Named → FoundMethod → Type 0
IsMethod m name desc t f = IsMember m (λ s. s.methods) (is_method name desc) t f.class f.method

abbrev Finds : Mixture → Named → List ℕ → (Named → Option FoundMethod) → Type 0
Finds m name desc search_up = (t : Named) (f : FoundMethod) → search_up t ≡ Some f → IsMethod m name desc t f

own_method : (m : Mixture) (name : Named) (desc : List ℕ) (t : Named) (s : Shape) → found m t ≡ Some s → (f : FoundMethod) → option_map (method_there s) (find (is_method name desc) s.methods) ≡ Some f → IsMethod m name desc t f
own_method m name desc t s e f h =
    let i : Made (method_there s) (find (is_method name desc) s.methods) f = made (method_there s) (find (is_method name desc) s.methods) f h in
    let P : FoundMethod → Type 0 = λ g. IsMethod m name desc t g in
    subst P i.gives (own m (λ v. v.methods) (is_method name desc) t s e i.value i.given)

method_of_interface : (m : Mixture) (name : Named) (desc : List ℕ) (search_up : Named → Option FoundMethod) → Finds m name desc search_up → (t : Named) (s : Shape) → found m t ≡ Some s → (f : FoundMethod)
    → first_of search_up s.head.interfaces ≡ Some f → IsMethod m name desc t f
method_of_interface m name desc search_up again t s e f h =
    let a : Answering search_up s.head.interfaces f = answering search_up s.head.interfaces f h in
    above m (λ v. v.methods) (is_method name desc) t a.name f.class s f.method e (interface a.front a.back a.whole) (again a.name f a.answer)

method_of_superclass : (m : Mixture) (name : Named) (desc : List ℕ) (search_up : Named → Option FoundMethod) → Finds m name desc search_up → (t : Named) (s : Shape) → found m t ≡ Some s → (f : FoundMethod) (o : Option Named)
    → s.head.superclass ≡ o → of_option search_up o ≡ Some f → IsMethod m name desc t f
method_of_superclass m name desc search_up again t s e f None up h = cc
method_of_superclass m name desc search_up again t s e f (Some p) up h = above m (λ v. v.methods) (is_method name desc) t p f.class s f.method e (superclass up) (again p f h)

abbrev class_method_at : Mixture → ℕ → Named → List ℕ → Option Shape → Option FoundMethod
class_method_at m n name desc o =
    elim o [
      | None ↦ None
      | Some s ↦ option_or (option_map (method_there s) (find (is_method name desc) s.methods)) (of_option (class_method_within m n name desc) s.head.superclass)
    ]

class_method_found : (m : Mixture) (n : ℕ) (name : Named) (desc : List ℕ) → Finds m name desc (class_method_within m n name desc) → (t : Named) (f : FoundMethod) (o : Option Shape) → found m t ≡ o
    → class_method_at m n name desc o ≡ Some f → IsMethod m name desc t f
class_method_found m n name desc again t f None e h = cc
class_method_found m n name desc again t f (Some s) e h =
    elim (or_some (option_map (method_there s) (find (is_method name desc) s.methods)) (of_option (class_method_within m n name desc) s.head.superclass) f h)
    [ inl it ↦ own_method m name desc t s e f it | inr up ↦ method_of_superclass m name desc (class_method_within m n name desc) again t s e f s.head.superclass refl up ]

-- so with the methods of a class and its superclasses
pub class_methods_found : (m : Mixture) (n : ℕ) (name : Named) (desc : List ℕ) → Finds m name desc (class_method_within m n name desc)
class_methods_found m zero name desc t f h = cc
class_methods_found m (suc n) name desc t f h = class_method_found m n name desc (class_methods_found m n name desc) t f (found m t) refl h

abbrev interface_method_at : Mixture → ℕ → Named → List ℕ → Option Shape → Option FoundMethod
interface_method_at m n name desc o =
    elim o [
      | None ↦ None
      | Some s ↦ option_or (option_map (method_there s) (find (is_method name desc) s.methods)) (first_of (interface_method_within m n name desc) s.head.interfaces)
    ]

interface_method_found : (m : Mixture) (n : ℕ) (name : Named) (desc : List ℕ) → Finds m name desc (interface_method_within m n name desc) → (t : Named) (f : FoundMethod) (o : Option Shape) → found m t ≡ o
    → interface_method_at m n name desc o ≡ Some f → IsMethod m name desc t f
interface_method_found m n name desc again t f None e h = cc
interface_method_found m n name desc again t f (Some s) e h =
    elim (or_some (option_map (method_there s) (find (is_method name desc) s.methods)) (first_of (interface_method_within m n name desc) s.head.interfaces) f h)
    [ inl it ↦ own_method m name desc t s e f it | inr beside ↦ method_of_interface m name desc (interface_method_within m n name desc) again t s e f beside ]

-- of an interface and its superinterfaces
pub interface_methods_found : (m : Mixture) (n : ℕ) (name : Named) (desc : List ℕ) → Finds m name desc (interface_method_within m n name desc)
interface_methods_found m zero name desc t f h = cc
interface_methods_found m (suc n) name desc t f h = interface_method_found m n name desc (interface_methods_found m n name desc) t f (found m t) refl h

abbrev inherited_at : Mixture → ℕ → Named → List ℕ → Option Shape → Option FoundMethod
inherited_at m n name desc o =
    elim o [
      | None ↦ None
      | Some s ↦ option_or (first_of (interface_method_within m n name desc) s.head.interfaces) (of_option (inherited_within m n name desc) s.head.superclass)
    ]

inherited_found : (m : Mixture) (n : ℕ) (name : Named) (desc : List ℕ) → Finds m name desc (inherited_within m n name desc) → (t : Named) (f : FoundMethod) (o : Option Shape) → found m t ≡ o
    → inherited_at m n name desc o ≡ Some f → IsMethod m name desc t f
inherited_found m n name desc again t f None e h = cc
inherited_found m n name desc again t f (Some s) e h =
    elim (or_some (first_of (interface_method_within m n name desc) s.head.interfaces) (of_option (inherited_within m n name desc) s.head.superclass) f h) [
      | inl beside ↦ method_of_interface m name desc (interface_method_within m n name desc) (interface_methods_found m n name desc) t s e f beside
      | inr up ↦ method_of_superclass m name desc (inherited_within m n name desc) again t s e f s.head.superclass refl up
    ]

-- of the superinterfaces of a class and of its superclasses
pub all_inherited_found : (m : Mixture) (n : ℕ) (name : Named) (desc : List ℕ) → Finds m name desc (inherited_within m n name desc)
all_inherited_found m zero name desc t f h = cc
all_inherited_found m (suc n) name desc t f h = inherited_found m n name desc (all_inherited_found m n name desc) t f (found m t) refl h
