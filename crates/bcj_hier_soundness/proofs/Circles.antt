-- Above a class that loads there is no circle, and the chains up from a class are one chain.
use Rattle.std.proofs.Common.{◌≡◌, List, [], ◌∷◌, Option, Some, None, Bool, true, false, ◌⊎◌, sym, ◌∙◌, ap, subst, ℕ, zero, suc, length, inl, inr}
use Rattle.std.proofs.lemmas.Bool.{or_right, cases_Bool}
use Rattle.std.specs.Option.{option_map_or}
use Rattle.std.specs.Str.{bytes_eq}
use Rattle.bcj_hier_rules.specs.Shapes.{Named, Shape, Mixture, found}
use Rattle.bcj_hier_rules.specs.Loading.{is_interface, load_within, load_error, Below, same, step}
use Rattle.bcj_hier_soundness.proofs.Names.{is_in, same_bytes, bytes_same, in_first}
use Rattle.bcj_hier_soundness.proofs.Loads.{Loaded, loaded, superclass_part, each_that_loads_is_there, superclasses_load}

-- a class that loads
pub record Class (m : Mixture) (c : Named) : Type 0 where
  pub shape : Shape
  pub is_it : found m c ≡ Some shape
  pub class : shape.head.interface ≡ false
  pub loads : load_error m c ≡ None

-- a class that loads, with its superclass
pub record Child (m : Mixture) (p c : Named) : Type 0 where
  pub shape : Shape
  pub is_it : found m c ≡ Some shape
  pub class : shape.head.interface ≡ false
  pub loads : load_error m c ≡ None
  pub up : shape.head.superclass ≡ Some p

abbrev pub interface_by : Option Shape → Bool
interface_by o = option_map_or (λ s. s.head.interface) o false

-- a type that is found and is no interface
pub is_class : (m : Mixture) (c : Named) (s : Shape) → found m c ≡ Some s → is_interface m c ≡ false → s.head.interface ≡ false
is_class m c s e class = sym (ap interface_by e) ∙ class

pub class_of : (m : Mixture) (c : Named) → load_error m c ≡ None → is_interface m c ≡ false → Class m c
class_of m c h class =
    let t : (s : Shape) × (found m c ≡ Some s) = each_that_loads_is_there m c h in
    record { shape = t.0; is_it = t.1; class = is_class m c t.0 t.1 class; loads = h }

pub class_itself : (m : Mixture) (p c : Named) → Child m p c → Class m c
class_itself m p c k = record { shape = k.shape; is_it = k.is_it; class = k.class; loads = k.loads }

-- the superclass of a class that loads
pub class_above : (m : Mixture) (p c : Named) → Child m p c → Class m p
class_above m p c k =
    let parts : (load_error m p ≡ None) × (is_interface m p ≡ false) = superclasses_load m c p k.shape k.loads k.is_it k.up in
    class_of m p parts.0 parts.1

pub child_of_step : (m : Mixture) (p c : Named) (s : Shape) → found m c ≡ Some s → s.head.interface ≡ false → s.head.superclass ≡ Some p → load_error m c ≡ None → Child m p c
child_of_step m p c s e class up h = record { shape = s; is_it = e; class = class; loads = h; up = up }

pub below_itself : (m : Mixture) (c : Named) → Class m c → Below m c c
below_itself m c k = same k.is_it k.class

pub below_parent : (m : Mixture) (p c : Named) → Child m p c → Below m c p
below_parent m p c k = step k.is_it k.class k.up (below_itself m p (class_above m p c k))

-- one chain behind another
pub joined : (m : Mixture) (a b c : Named) → Below m a b → Below m b c → Below m a c
joined m a b c (same e class) q = q
joined m a b c (step {p = p} e class up rest) q = step e class up (joined m p b c rest q)

-- no chain leads from what loads to a name on its way
passed_not_below : (m : Mixture) (n : ℕ) (way : List Named) (c x : Named) → load_within m n way c ≡ None → Below m c x → is_in x way ≡ true → ⊥
passed_not_below m zero way c x h b old = cc
passed_not_below m (suc n) way c x h (same {s = s} e class) old =
    let l : Loaded m n way c s = loaded m n way c s e h in
    let wrong : true ≡ false = sym old ∙ l.new in
    cc
passed_not_below m (suc n) way c x h (step {p = p} {s = s} e class up rest) old =
    let l : Loaded m n way c s = loaded m n way c s e h in
    let parts : (load_within m n (c ∷ way) p ≡ None) × (is_interface m p ≡ false) = superclass_part m (load_within m n (c ∷ way)) s.head.superclass p up l.superclass in
    passed_not_below m n (c ∷ way) p x parts.0 rest (or_right (bytes_eq x c) (is_in x way) old)

-- a superclass is not below its class
pub no_circle : (m : Mixture) (p c : Named) → Child m p c → Below m p c → ⊥
no_circle m p c k b =
    let l : Loaded m (length m) [] c k.shape = loaded m (length m) [] c k.shape k.is_it k.loads in
    let parts : (load_within m (length m) (c ∷ []) p ≡ None) × (is_interface m p ≡ false) = superclass_part m (load_within m (length m) (c ∷ [])) k.shape.head.superclass p k.up l.superclass in
    passed_not_below m (length m) (c ∷ []) p c parts.0 b (in_first c [])

-- a class has one superclass
one_above : (m : Mixture) (c p q : Named) (s t : Shape) → found m c ≡ Some s → s.head.superclass ≡ Some p → found m c ≡ Some t → t.head.superclass ≡ Some q → p ≡ q
one_above m c p q s t e up f on =
    let both : Some s ≡ Some t = sym e ∙ f in
    let shape : s ≡ t = cc in
    let names : Some p ≡ Some q = sym up ∙ (ap (λ v. v.head.superclass) shape ∙ on) in
    cc

-- of two classes above one, one is above the other
pub fork : (m : Mixture) (x a b : Named) → Below m x a → Below m x b → Below m a b ⊎ Below m b a
fork m x a b (same e class) q = inl q
fork m x a b (step e class up rest) (same f class') = inr (step e class up rest)
fork m x a b (step {p = p} {s = s} e class up rest) (step {p = q} {s = t} f class' on more) =
    let P : Named → Type 0 = λ y. Below m y b in
    fork m p a b rest (subst P (sym (one_above m x p q s t e up f on)) more)

-- a class is not below another of the same superclass
not_below_sibling : (m : Mixture) (p a b : Named) → Child m p a → Child m p b → bytes_eq a b ≡ false → Below m a b → ⊥
not_below_sibling m p a b ka kb other (same e class) =
    let wrong : true ≡ false = sym (bytes_same a) ∙ other in
    cc
not_below_sibling m p a b ka kb other (step {p = q} {s = t} f class on rest) =
    let P : Named → Type 0 = λ y. Below m y b in
    no_circle m p b kb (subst P (sym (one_above m a p q ka.shape t ka.is_it ka.up f on)) rest)

-- names that differ the other way round
pub other_way : (a b : Named) → bytes_eq a b ≡ false → bytes_eq b a ≡ false
other_way a b other =
    elim (cases_Bool (bytes_eq b a)) [
      | inl it ↦
          let wrong : true ≡ false = sym (bytes_same a) ∙ (ap (bytes_eq a) (sym (same_bytes b a it)) ∙ other) in
          absurd (cc)
      | inr fine ↦ fine
    ]

-- nothing is below two classes of one superclass
pub siblings_apart : (m : Mixture) (p a b x : Named) → Child m p a → Child m p b → bytes_eq a b ≡ false → Below m x a → Below m x b → ⊥
siblings_apart m p a b x ka kb other under over =
    elim (fork m x a b under over) [ inl up ↦ not_below_sibling m p a b ka kb other up | inr down ↦ not_below_sibling m p b a kb ka (other_way a b other) down ]
