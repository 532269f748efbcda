-- Where the classes below one stand among all classes: in one part of the list, and nowhere else.
use Rattle.std.proofs.Common.{◌≡◌, ◌<◌, ◌≤◌, List, [], ◌∷◌, ◌++◌, flat_map, Option, Some, None, true, false, ◌⊎◌, refl, sym, ◌∙◌, ap, subst, ℕ, zero, suc, length, inl, inr, arith, append_assoc, append-nil}
use Rattle.std.proofs.lemmas.Bool.{cases_Bool, or_cases, or_right}
use Rattle.std.proofs.lemmas.List.Folds.{list_any-append}
use Rattle.std.proofs.lemmas.List.Concat.{flat_map-append}
use Rattle.std.specs.Str.{bytes_eq}
use Rattle.bcj_symbolic_trees.specs.Names.{object_name}
use Rattle.bcj_hier_rules.specs.Shapes.{Named, Shape, Mixture, found}
use Rattle.bcj_hier_rules.specs.Loading.{is_interface, turns, load_within, load_error, Below, same, step}
use Rattle.bcj_hier_rules.specs.Trees.{children, preorder_within, preorder_of}
use Rattle.bcj_hier_soundness.specs.Laws.{IsHierarchy}
use Rattle.bcj_hier_soundness.proofs.Names.{is_in, same_bytes, in_first}
use Rattle.bcj_hier_soundness.proofs.Turns.{left, left_falls, left_all}
use Rattle.bcj_hier_soundness.proofs.Loads.{Loaded, loaded, loaded_there, superclass_part}
use Rattle.bcj_hier_soundness.proofs.Circles.{Class, Child, class_itself, class_above, child_of_step, below_itself, below_parent, is_class, joined, no_circle, siblings_apart}
use Rattle.bcj_hier_soundness.proofs.Children.{child_of, Other, Siblings, siblings}

-- ---- lists of lists

pub in_append : (x : Named) (a b : List Named) → is_in x (a ++ b) ≡ true → (is_in x a ≡ true) ⊎ (is_in x b ≡ true)
in_append x a b h = or_cases (is_in x a) (is_in x b) (sym (list_any-append (bytes_eq x) a b) ∙ h)

-- what is in one of the lists is in that of one name
pub record Among (f : Named → List Named) (names : List Named) (x : Named) : Type 0 where
  pub name : Named
  pub is_there : is_in name names ≡ true
  pub inside : is_in x (f name) ≡ true

pub among : (f : Named → List Named) (names : List Named) (x : Named) → is_in x (flat_map f names) ≡ true → Among f names x
among f [] x h = cc
among f (n ∷ ns) x h =
    elim (in_append x (f n) (flat_map f ns) h) [
      | inl it ↦ record { name = n; is_there = in_first n ns; inside = it }
      | inr other ↦
          let rest : Among f ns x = among f ns x other in
          record { name = rest.name; is_there = or_right (bytes_eq rest.name n) (is_in rest.name ns) rest.is_there; inside = rest.inside }
    ]

pub same_lists : (f g : Named → List Named) (names : List Named) → ((n : Named) → is_in n names ≡ true → f n ≡ g n) → flat_map f names ≡ flat_map g names
same_lists f g [] alike = refl
same_lists f g (n ∷ ns) alike =
    ap (λ l. l ++ flat_map f ns) (alike n (in_first n ns)) ∙ ap (λ l. g n ++ l) (same_lists f g ns (λ k h. alike k (or_right (bytes_eq k n) (is_in k ns) h)))

-- ---- who stands in a part

abbrev StandBelow : Mixture → ℕ → Type 0
StandBelow m n = (d : Named) → Class m d → (x : Named) → is_in x (preorder_within n m d) ≡ true → Below m x d

-- what stands in the part of a child
below_child : (m : Mixture) (n : ℕ) → StandBelow m n → (d e x : Named) → Child m d e → is_in x (preorder_within n m e) ≡ true → Below m x d
below_child m n again d e x k h = joined m x e d (again e (class_itself m d e k) x h) (below_parent m d e k)

below_beside : (m : Mixture) → IsHierarchy m → (n : ℕ) → StandBelow m n → (d x : Named) → is_in x (flat_map (preorder_within n m) (children m d)) ≡ true → Below m x d
below_beside m h n again d x i =
    let a : Among (preorder_within n m) (children m d) x = among (preorder_within n m) (children m d) x i in
    below_child m n again d a.name x (child_of m h d a.name a.is_there) a.inside

pub stand_below : (m : Mixture) → IsHierarchy m → (n : ℕ) → StandBelow m n
stand_below m h zero d k x i = cc
stand_below m h (suc n) d k x i =
    let P : Named → Type 0 = λ y. Below m y d in
    elim (or_cases (bytes_eq x d) (is_in x (flat_map (preorder_within n m) (children m d))) i)
    [ inl it ↦ subst P (sym (same_bytes x d it)) (below_itself m d k) | inr other ↦ below_beside m h n (stand_below m h n) d x other ]

-- ---- turns

-- each name that was passed is above the class
abbrev Passed : Mixture → List Named → Named → Type 0
Passed m seen d = (x : Named) → is_in x seen ≡ true → Below m d x

passed_on : (m : Mixture) (seen : List Named) (d e : Named) → Passed m seen d → Child m d e → Passed m (d ∷ seen) e
passed_on m seen d e passed k x h =
    let P : Named → Type 0 = λ y. Below m e y in
    elim (or_cases (bytes_eq x d) (is_in x seen) h) [ inl it ↦ subst P (sym (same_bytes x d it)) (below_parent m d e k) | inr old ↦ joined m e d x (below_parent m d e k) (passed x old) ]

-- a child was not passed on the way to its class
child_new : (m : Mixture) (seen : List Named) (d e : Named) → Class m d → Passed m seen d → Child m d e → is_in e (d ∷ seen) ≡ false
child_new m seen d e c passed k =
    let P : Named → Type 0 = λ y. Below m d y in
    elim (cases_Bool (is_in e (d ∷ seen))) [
      | inl old ↦
          elim (or_cases (bytes_eq e d) (is_in e seen) old)
          [ inl it ↦ absurd (no_circle m d e k (subst P (sym (same_bytes e d it)) (below_itself m d c))) | inr earlier ↦ absurd (no_circle m d e k (passed e earlier)) ]
      | inr new ↦ new
    ]

abbrev Stays : Mixture → ℕ → Type 0
Stays m n = (seen : List Named) (d : Named) → Class m d → is_in d seen ≡ false → Passed m seen d → left seen m ≤ n → preorder_within (suc n) m d ≡ preorder_within n m d

child_stays : (m : Mixture) (n : ℕ) → Stays m n → (seen : List Named) (d e : Named) → Class m d → Passed m seen d → left (d ∷ seen) m ≤ n → Child m d e → preorder_within (suc n) m e ≡ preorder_within n m e
child_stays m n again seen d e c passed few k = again (d ∷ seen) e (class_itself m d e k) (child_new m seen d e c passed k) (passed_on m seen d e passed k) few

-- one turn more changes nothing where as many turns as types are left
stays : (m : Mixture) → IsHierarchy m → (n : ℕ) → Stays m n
stays m h zero seen d c new passed few =
    let falls : left (d ∷ seen) m < left seen m = left_falls d c.shape seen m new c.is_it in
    absurd (omega arith)
stays m h (suc n) seen d c new passed few =
    let falls : left (d ∷ seen) m < left seen m = left_falls d c.shape seen m new c.is_it in
    let fewer : left (d ∷ seen) m ≤ n = omega arith in
    ap (λ l. d ∷ l)
    (same_lists (preorder_within (suc n) m) (preorder_within n m) (children m d)
    (λ e i. child_stays m n (stays m h n) seen d e c passed fewer (child_of m h d e i)))

pub part_stays : (m : Mixture) → IsHierarchy m → (d : Named) → Class m d → preorder_of m d ≡ preorder_within (length m) m d
part_stays m h d c = stays m h (length m) [] d c refl (λ x e. cc) (omega (arith, left_all m))

-- ---- parts

-- a part of a list that is that of a class, with nothing below the class outside
pub record Part (m : Mixture) (whole : List Named) (d : Named) : Type 0 where
  pub before : List Named
  pub behind : List Named
  pub is_part : whole ≡ before ++ (preorder_of m d ++ behind)
  pub none_before : (x : Named) → is_in x before ≡ true → Below m x d → ⊥
  pub none_behind : (x : Named) → is_in x behind ≡ true → Below m x d → ⊥

-- what stands beside a child is not below it
beside_child : (m : Mixture) → IsHierarchy m → (n : ℕ) (p d : Named) → Child m p d → (names : List Named) → ((e : Named) → is_in e names ≡ true → Other m p d e)
    → (x : Named) → is_in x (flat_map (preorder_within n m) names) ≡ true → Below m x d → ⊥
beside_child m h n p d k names others x i b =
    let a : Among (preorder_within n m) names x = among (preorder_within n m) names x i in
    let o : Other m p d a.name = others a.name a.is_there in
    siblings_apart m p a.name d x o.child k o.other (stand_below m h n a.name (class_itself m p a.name o.child) x a.inside) b

before_child : (m : Mixture) → IsHierarchy m → (n : ℕ) (p d : Named) → Child m p d → (s : Siblings m p d) (x : Named) → is_in x (p ∷ flat_map (preorder_within n m) s.front) ≡ true → Below m x d → ⊥
before_child m h n p d k s x i b =
    let P : Named → Type 0 = λ y. Below m y d in
    elim (or_cases (bytes_eq x p) (is_in x (flat_map (preorder_within n m) s.front)) i)
    [ inl it ↦ no_circle m p d k (subst P (same_bytes x p it) b) | inr other ↦ beside_child m h n p d k s.front s.earlier x other b ]

-- the part of a child in that of its superclass
part_of_child : (m : Mixture) → IsHierarchy m → (p d : Named) → Child m p d → Part m (preorder_of m p) d
part_of_child m h p d k =
    let s : Siblings m p d = siblings m h p d k in
    let n : ℕ = length m in
    let f : Named → List Named = preorder_within n m in
    let split : flat_map f (children m p) ≡ flat_map f s.front ++ (f d ++ flat_map f s.back) = ap (flat_map f) s.whole ∙ flat_map-append f s.front (d ∷ s.back) in
    let whole : flat_map f (children m p) ≡ flat_map f s.front ++ (preorder_of m d ++ flat_map f s.back) =
    split ∙ ap (λ l. flat_map f s.front ++ (l ++ flat_map f s.back)) (sym (part_stays m h d (class_itself m p d k))) in
    record {
      before = p ∷ flat_map f s.front;
      behind = flat_map f s.back;
      is_part = ap (λ l. p ∷ l) whole;
      none_before = before_child m h n p d k s;
      none_behind = beside_child m h n p d k s.back s.later;
    }

regroup : (a b c d e : List Named) → a ++ ((b ++ (c ++ d)) ++ e) ≡ (a ++ b) ++ (c ++ (d ++ e))
regroup a b c d e = simp append_assoc

-- a part of a part
part_of_part : (m : Mixture) (whole : List Named) (p d : Named) → Below m d p → Part m whole p → Part m (preorder_of m p) d → Part m whole d
part_of_part m whole p d up outer inner = record {
  before = outer.before ++ inner.before;
  behind = inner.behind ++ outer.behind;
  is_part = outer.is_part ∙ (ap (λ l. outer.before ++ (l ++ outer.behind)) inner.is_part ∙ regroup outer.before inner.before (preorder_of m d) inner.behind outer.behind);
  none_before = λ x i b. elim (in_append x outer.before inner.before i) [ inl far ↦ outer.none_before x far (joined m x d p b up) | inr near ↦ inner.none_before x near b ];
  none_behind = λ x i b. elim (in_append x inner.behind outer.behind i) [ inl near ↦ inner.none_behind x near b | inr far ↦ outer.none_behind x far (joined m x d p b up) ];
}

-- the part of a class in that of each class above it
pub part : (m : Mixture) → IsHierarchy m → (d a : Named) → load_error m d ≡ None → Below m d a → Part m (preorder_of m a) d
part m h d a ok (same e class) = record { before = []; behind = []; is_part = sym (append-nil (preorder_of m d)); none_before = λ x i b. cc; none_behind = λ x i b. cc }
part m h d a ok (step {p = p} {s = s} e class up rest) =
    let k : Child m p d = child_of_step m p d s e class up ok in
    let above : Class m p = class_above m p d k in
    part_of_part m (preorder_of m a) p d (below_parent m p d k) (part m h p a above.loads rest) (part_of_child m h p d k)

-- ---- all classes

to_object_by : (m : Mixture) → IsHierarchy m → (n : ℕ) → ((way : List Named) (p : Named) → load_within m n way p ≡ None → is_interface m p ≡ false → Below m p object_name)
    → (way : List Named) (c : Named) (s : Shape) → found m c ≡ Some s → s.head.interface ≡ false → Loaded m n way c s → (o : Option Named) → s.head.superclass ≡ o → Below m c object_name
to_object_by m h n again way c s e class l None up =
    let P : Named → Type 0 = λ x. Below m c x in
    subst P (h.top c s e class up) (same e class)
to_object_by m h n again way c s e class l (Some p) up =
    let parts : (load_within m n (c ∷ way) p ≡ None) × (is_interface m p ≡ false) = superclass_part m (load_within m n (c ∷ way)) s.head.superclass p up l.superclass in
    step e class up (again (c ∷ way) p parts.0 parts.1)

-- each class that loads is below Object
to_object : (m : Mixture) → IsHierarchy m → (n : ℕ) (way : List Named) (c : Named) → load_within m n way c ≡ None → is_interface m c ≡ false → Below m c object_name
to_object m h zero way c ok class = cc
to_object m h (suc n) way c ok class =
    let t : (s : Shape) × (found m c ≡ Some s) = loaded_there m (suc n) way c ok in
    to_object_by m h n (to_object m h n) way c t.0 t.1 (is_class m c t.0 t.1 class) (loaded m n way c t.0 t.1 ok) t.0.head.superclass refl

pub below_object : (m : Mixture) → IsHierarchy m → (c : Named) → load_error m c ≡ None → is_interface m c ≡ false → Below m c object_name
below_object m h c ok class = to_object m h (turns m) [] c ok class
