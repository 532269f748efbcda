-- The searches along steps find each chain of steps, and nothing else.
use Rattle.std.proofs.Common.{◌≡◌, List, [], ◌∷◌, ◌++◌, Option, Some, None, Bool, true, false, not, ◌&&◌, ◌||◌, refl, sym, ◌∙◌, ap, subst, append_assoc, ℕ, zero, suc, inl, inr}
use Rattle.std.proofs.lemmas.Bool.{and_parts, and_from, or_cases, or_left, or_right, not-true, not_from_false}
use Rattle.std.specs.List.{list_any}
use Rattle.std.specs.Option.{option_map_or}
use Rattle.std.specs.Str.{bytes_eq}
use Rattle.bcj_hier_rules.specs.Shapes.{Named, Shape, Mixture, found}
use Rattle.bcj_hier_rules.specs.Loading.{turns, Below, same, step, Super, superclass, interface, Implements, self, through, below_within, implements_within}
use Rattle.bcj_hier_soundness.proofs.Names.{same_bytes, bytes_same, any_in, in_middle}
use Rattle.bcj_hier_soundness.proofs.Walks.{Kind, Walk, ends, goes, Search, walk_found}
use Rattle.bcj_hier_soundness.specs.Laws as law

-- ---- what a search finds

abbrev pub below_at : Mixture → ℕ → Named → Named → Option Shape → Bool
below_at m n c d o = elim o [ None ↦ false | Some s ↦ not s.head.interface && (bytes_eq c d || option_map_or (λ p. below_within m n p d) s.head.superclass false) ]

abbrev pub FindsBelow : Mixture → ℕ → Named → Type 0
FindsBelow m n d = (p : Named) → below_within m n p d ≡ true → Below m p d

below_above : (m : Mixture) (n : ℕ) (c d : Named) (s : Shape) → FindsBelow m n d → found m c ≡ Some s → s.head.interface ≡ false → (o : Option Named) → s.head.superclass ≡ o
    → option_map_or (λ p. below_within m n p d) o false ≡ true → Below m c d
below_above m n c d s again e class None up h = cc
below_above m n c d s again e class (Some p) up h = step e class up (again p h)

pub below_found : (m : Mixture) (n : ℕ) (c d : Named) → FindsBelow m n d → (o : Option Shape) → found m c ≡ o → below_at m n c d o ≡ true → Below m c d
below_found m n c d again None e h = cc
below_found m n c d again (Some s) e h =
    let parts : (not s.head.interface ≡ true) × ((bytes_eq c d || option_map_or (λ p. below_within m n p d) s.head.superclass false) ≡ true) = and_parts _ _ h in
    let class : s.head.interface ≡ false = not-true s.head.interface parts.0 in
    elim (or_cases (bytes_eq c d) (option_map_or (λ p. below_within m n p d) s.head.superclass false) parts.1) [
      | inl it ↦ rw (← same_bytes c d it) (same e class)
      | inr up ↦ below_above m n c d s again e class s.head.superclass refl up
    ]

pub below_right : (m : Mixture) (n : ℕ) (d : Named) → FindsBelow m n d
below_right m zero d c h = cc
below_right m (suc n) d c h = below_found m n c d (below_right m n d) (found m c) refl h

abbrev pub implements_at : Mixture → ℕ → Named → Named → Option Shape → Bool
implements_at m n c i o =
    elim o [
      | None ↦ false
      | Some s ↦ s.head.interface && bytes_eq c i
          || (option_map_or (λ p. implements_within m n p i) s.head.superclass false || list_any (λ p. implements_within m n p i) s.head.interfaces)
    ]

abbrev pub FindsInterface : Mixture → ℕ → Named → Type 0
FindsInterface m n i = (p : Named) → implements_within m n p i ≡ true → Implements m p i

implements_above : (m : Mixture) (n : ℕ) (c i : Named) (s : Shape) → FindsInterface m n i → found m c ≡ Some s → (o : Option Named) → s.head.superclass ≡ o
    → option_map_or (λ p. implements_within m n p i) o false ≡ true → Implements m c i
implements_above m n c i s again e None up h = cc
implements_above m n c i s again e (Some p) up h = through e (superclass up) (again p h)

-- among superinterfaces behind some
implements_beside : (m : Mixture) (n : ℕ) (c i : Named) (s : Shape) → FindsInterface m n i → found m c ≡ Some s → (front names : List Named) → s.head.interfaces ≡ front ++ names
    → list_any (λ p. implements_within m n p i) names ≡ true → Implements m c i
implements_beside m n c i s again e front [] all h = cc
implements_beside m n c i s again e front (p ∷ rest) all h =
    elim (or_cases (implements_within m n p i) (list_any (λ q. implements_within m n q i) rest) h) [
      | inl it ↦ through e (interface front rest all) (again p it)
      | inr other ↦ implements_beside m n c i s again e (front ++ p ∷ []) rest (all ∙ sym (append_assoc front (p ∷ []) rest)) other
    ]

pub implements_found : (m : Mixture) (n : ℕ) (c i : Named) → FindsInterface m n i → (o : Option Shape) → found m c ≡ o → implements_at m n c i o ≡ true → Implements m c i
implements_found m n c i again None e h = cc
implements_found m n c i again (Some s) e h =
    elim (or_cases (s.head.interface && bytes_eq c i) (option_map_or (λ p. implements_within m n p i) s.head.superclass false || list_any (λ p. implements_within m n p i) s.head.interfaces) h) [
      | inl it ↦
          let parts : (s.head.interface ≡ true) × (bytes_eq c i ≡ true) = and_parts _ _ it in
          let name : c ≡ i = same_bytes c i parts.1 in
          let P : Named → Type 0 = λ x. Implements m x i in
          subst P (sym name) (self (ap (found m) (sym name) ∙ e) parts.0)
      | inr up ↦
          elim (or_cases (option_map_or (λ p. implements_within m n p i) s.head.superclass false) (list_any (λ p. implements_within m n p i) s.head.interfaces) up) [
            | inl above ↦ implements_above m n c i s again e s.head.superclass refl above
            | inr beside ↦ implements_beside m n c i s again e [] s.head.interfaces refl beside
          ]
    ]

pub implements_right : (m : Mixture) (n : ℕ) (i : Named) → FindsInterface m n i
implements_right m zero i c h = cc
implements_right m (suc n) i c h = implements_found m n c i (implements_right m n i) (found m c) refl h

-- ---- what stands in a relation is found

-- a step of a class to its superclass
record ClassStep (m : Mixture) (c p : Named) : Type 0 where
  shape : Shape
  is_it : found m c ≡ Some shape
  class : shape.head.interface ≡ false
  up : shape.head.superclass ≡ Some p

record ClassEnd (m : Mixture) (d c : Named) : Type 0 where
  shape : Shape
  is_it : found m c ≡ Some shape
  class : shape.head.interface ≡ false
  called : c ≡ d

class_kind : (m : Mixture) (d : Named) → Kind m
class_kind m d = record { Step = ClassStep m; End = ClassEnd m d; step_there = λ c p s. (s.shape, s.is_it); end_there = λ c e. (e.shape, e.is_it) }

below_walk : (m : Mixture) (c d : Named) → Below m c d → Walk m (class_kind m d) [] c
unfolding class_kind
below_walk m c d (same e class) = ends refl (record { shape = _; is_it = e; class = class; called = refl })
below_walk m c d (step {p = p} e class up rest) = goes refl (record { shape = _; is_it = e; class = class; up = up }) (below_walk m p d rest)

class_search : (m : Mixture) (d : Named) → Search m (class_kind m d)
unfolding class_kind
class_search m d = record {
  Finds = λ n c. below_within m n c d ≡ true;
  at_end = λ n c e. ap (below_at m n c d) e.is_it
      ∙ and_from (not e.shape.head.interface) _ (not_from_false e.shape.head.interface e.class) (or_left (bytes_eq c d) _ (ap (bytes_eq c) (sym e.called) ∙ bytes_same c));
  by_step = λ n c p s h. ap (below_at m n c d) s.is_it
      ∙ and_from (not s.shape.head.interface) _ (not_from_false s.shape.head.interface s.class) (or_right (bytes_eq c d) _ (ap (λ o. option_map_or (λ q. below_within m n q d) o false) s.up ∙ h));
}

pub each_class_below_is_found : law.EachClassBelowIsFound
unfolding class_kind class_search
each_class_below_is_found m c d = (below_right m (turns m) d c, λ b. walk_found m (class_kind m d) (class_search m d) c (below_walk m c d b))

record AnyStep (m : Mixture) (c p : Named) : Type 0 where
  shape : Shape
  is_it : found m c ≡ Some shape
  up : Super shape p

record InterfaceEnd (m : Mixture) (i c : Named) : Type 0 where
  shape : Shape
  is_it : found m c ≡ Some shape
  is_interface : shape.head.interface ≡ true
  called : c ≡ i

any_kind : (m : Mixture) (i : Named) → Kind m
any_kind m i = record { Step = AnyStep m; End = InterfaceEnd m i; step_there = λ c p s. (s.shape, s.is_it); end_there = λ c e. (e.shape, e.is_it) }

implements_walk : (m : Mixture) (c i : Named) → Implements m c i → Walk m (any_kind m i) [] c
unfolding any_kind
implements_walk m c i (self e it) = ends refl (record { shape = _; is_it = e; is_interface = it; called = refl })
implements_walk m c i (through {p = p} e up rest) = goes refl (record { shape = _; is_it = e; up = up }) (implements_walk m p i rest)

pub super_found : (f : Named → Bool) (s : Shape) (p : Named) → Super s p → f p ≡ true → (option_map_or f s.head.superclass false || list_any f s.head.interfaces) ≡ true
super_found f s p (superclass up) h = or_left (option_map_or f s.head.superclass false) _ (ap (λ o. option_map_or f o false) up ∙ h)
super_found f s p (interface front back up) h = or_right (option_map_or f s.head.superclass false) _ (ap (list_any f) up ∙ any_in f p (front ++ p ∷ back) (in_middle p front back) h)

any_search : (m : Mixture) (i : Named) → Search m (any_kind m i)
unfolding any_kind
any_search m i = record {
  Finds = λ n c. implements_within m n c i ≡ true;
  at_end = λ n c e. ap (implements_at m n c i) e.is_it
      ∙ or_left (e.shape.head.interface && bytes_eq c i) _ (and_from e.shape.head.interface _ e.is_interface (ap (bytes_eq c) (sym e.called) ∙ bytes_same c));
  by_step = λ n c p s h. ap (implements_at m n c i) s.is_it
      ∙ or_right (s.shape.head.interface && bytes_eq c i) _ (super_found (λ q. implements_within m n q i) s.shape p s.up h);
}

pub each_interface_is_found : law.EachInterfaceIsFound
unfolding any_kind any_search
each_interface_is_found m c i = (implements_right m (turns m) i c, λ b. walk_found m (any_kind m i) (any_search m i) c (implements_walk m c i b))
