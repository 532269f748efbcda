-- What the calls of a hierarchy answer, by what it keeps.
use Rattle.std.proofs.Common.{◌≡◌, ◌<◌, ◌≤◌, ◌+◌, ◌⊎◌, ℕ, Bool, true, false, cond, ◌↔◌, not, ◌&&◌, ◌||◌, IsTrue, ◌==◌, List, length, slice_get, Option, None, Some, refl, sym, ◌∙◌, ap, arith, inl, inr}
use Rattle.std.specs.Option.{option_map, option_map_or}
use Rattle.bcj_symbolic_trees.specs.declared.class_tree.ClassHead.{ClassHead}
use Rattle.bcj_hier_rules.specs.Shapes.{Named}
use Rattle.bcj_hier_rules.specs.Heads.{of_heads, AreDistinct, IsRooted}
use Rattle.bcj_hier_rules.specs.Loading.{is_interface}
use Rattle.bcj_hier_rules.specs.Trees as tree
use Rattle.bcj_hier.specs.Numbers.{interface_at, name_at}
use Rattle.std.proofs.lemmas.Bool.{cases_Bool}
use Rattle.std.specs.Str.{bytes_eq}
use Rattle.bcj_hier_rules.specs.Shapes.{found}
use Rattle.bcj_hier_rules.specs.Heads.{head_shape}
use Rattle.bcj_hier_rules.specs.Loading.{Below, is_below}
use Rattle.bcj_hier_soundness.proofs.Distinct.{heads_are_found}
use Rattle.bcj_hier_soundness.proofs.Parts.{below_by_parts, classes_above_load}
use Rattle.bcj_hier_soundness.proofs.Numbers.{below_by_interval}
use Rattle.bcj_hier_soundness.proofs.Places.{roots_make_hierarchies}
use Rattle.bcj_hier_soundness.proofs.Steps.{each_class_below_is_found}
use Rattle.bcj_hier.specs.Loads.{loading_error}
use Rattle.bcj_hier.proofs.ByParts.{kind_found, kind_is, name_is, head_there, number_at, same_number}
use Rattle.bcj_hier_rules.specs.Linking.{class_pair}
use Rattle.bcj_symbolic_trees.specs.Names.{object_name}
use Rattle.bcj_hier.specs.Walks.{IsClassAt, names_at}
use Rattle.std.proofs.lemmas.Option.{slice_get-map}
use Rattle.bcj_hier.proofs.Walking.{root_class, root_name}

pub kind_at : (heads : List ClassHead) → AreDistinct heads → (k : ℕ) → k < length heads → interface_at heads k ≡ is_interface (of_heads heads) (name_at heads k)
kind_at heads distinct k few = kind_found heads (name_at heads k) k (number_at heads distinct k few)

pub high_none : (heads : List ClassHead) → AreDistinct heads → (k : ℕ) → k < length heads → interface_at heads k ≡ true → 0 ≡ tree.high (of_heads heads) (name_at heads k)
high_none heads distinct k few it =
    sym (ap (λ b. cond b 0 (tree.low (of_heads heads) (name_at heads k) + length (tree.preorder_of (of_heads heads) (name_at heads k)))) (sym (kind_at heads distinct k few) ∙ it))

-- ---- below

below_interface : (heads : List ClassHead) → AreDistinct heads → (c d : ℕ) → c < length heads → interface_at heads c ≡ true → false ≡ is_below (of_heads heads) (name_at heads c) (name_at heads d)
below_interface heads distinct c d few it =
    let t : (h : ClassHead) × (slice_get heads c ≡ Some h) = head_there heads c few in
    let is_it : found (of_heads heads) (name_at heads c) ≡ Some (head_shape t.0) = ap (found (of_heads heads)) (name_is heads c t.0 t.1) ∙ heads_are_found heads c t.0 distinct t.1 in
    let kind : t.0.interface ≡ true = sym (kind_is heads c t.0 t.1) ∙ it in
    sym (below_by_parts (of_heads heads) (name_at heads c) (name_at heads d) (head_shape t.0) is_it
    ∙ ap (λ b. not b && (bytes_eq (name_at heads c) (name_at heads d) || option_map_or (λ p. is_below (of_heads heads) p (name_at heads d)) t.0.superclass false)) kind)

below_other : (heads : List ClassHead) → AreDistinct heads → (c d : ℕ) → d < length heads → loading_error heads c ≡ None → interface_at heads d ≡ true → false ≡ is_below (of_heads heads) (name_at heads c) (name_at heads d)
below_other heads distinct c d few ok it =
    elim (cases_Bool (is_below (of_heads heads) (name_at heads c) (name_at heads d))) [
      | inl it_is ↦
          let b : Below (of_heads heads) (name_at heads c) (name_at heads d) = (each_class_below_is_found (of_heads heads) (name_at heads c) (name_at heads d)).0 (is_true it_is) in
          let class : is_interface (of_heads heads) (name_at heads d) ≡ false = (classes_above_load (of_heads heads) (name_at heads c) (name_at heads d) ok b).1 in
          let wrong_way : true ≡ false = sym it ∙ (kind_at heads distinct d few ∙ class) in
          absurd (cc)
      | inr it_is_not ↦ sym it_is_not
    ]
  where
    is_true : {b : Bool} → b ≡ true → IsTrue b
    is_true {b} e = e

-- an interface is below nothing, and nothing below it
pub none_below : (heads : List ClassHead) → AreDistinct heads → (c d : ℕ) → c < length heads → d < length heads → loading_error heads c ≡ None
    → (interface_at heads c ≡ true) ⊎ (interface_at heads d ≡ true) → false ≡ is_below (of_heads heads) (name_at heads c) (name_at heads d)
none_below heads distinct c d few less ok (inl it) = below_interface heads distinct c d few it
none_below heads distinct c d few less ok (inr it) = below_other heads distinct c d less ok it

same_tests : (a b : Bool) → (IsTrue a → IsTrue b) → (IsTrue b → IsTrue a) → a ≡ b
same_tests true true f g = refl
same_tests false false f g = refl
same_tests true false f g = let w : false ≡ true = f refl in cc
same_tests false true f g = let w : false ≡ true = g refl in cc

-- two numbers tell whether a class is below another
pub between_is : (heads : List ClassHead) → AreDistinct heads → IsRooted heads → (c d : ℕ) → c < length heads → d < length heads → loading_error heads c ≡ None → loading_error heads d ≡ None
    → interface_at heads c ≡ false → interface_at heads d ≡ false → (from number to : ℕ) → from ≡ tree.low (of_heads heads) (name_at heads d) → number ≡ tree.low (of_heads heads) (name_at heads c)
    → to ≡ tree.high (of_heads heads) (name_at heads d) → (b : Bool) → IsTrue b ↔ ((from ≤ number) × (number < to)) → b ≡ is_below (of_heads heads) (name_at heads c) (name_at heads d)
between_is heads distinct rooted c d few less okc okd classc classd from number to ef en et b test =
    let P : Below (of_heads heads) (name_at heads c) (name_at heads d) ↔ ((tree.low (of_heads heads) (name_at heads d) ≤ tree.low (of_heads heads) (name_at heads c)) × (tree.low (of_heads heads) (name_at heads c) < tree.high (of_heads heads) (name_at heads d))) =
    below_by_interval (of_heads heads) (roots_make_hierarchies heads distinct rooted) (name_at heads c) (name_at heads d) okc okd (sym (kind_at heads distinct c few) ∙ classc) (sym (kind_at heads distinct d less) ∙ classd) in
    let found_it : IsTrue (is_below (of_heads heads) (name_at heads c) (name_at heads d)) ↔ Below (of_heads heads) (name_at heads c) (name_at heads d) = each_class_below_is_found (of_heads heads) (name_at heads c) (name_at heads d) in
    same_tests b (is_below (of_heads heads) (name_at heads c) (name_at heads d))
    (λ t. let w : (from ≤ number) × (number < to) = test.0 t in
    let w0 : from ≤ number = w.0 in
    let w1 : number < to = w.1 in
    found_it.1 (P.1 (omega arith, omega arith)))
    (λ t. let w : (tree.low (of_heads heads) (name_at heads d) ≤ tree.low (of_heads heads) (name_at heads c)) × (tree.low (of_heads heads) (name_at heads c) < tree.high (of_heads heads) (name_at heads d)) = P.0 (found_it.0 t) in
    let w0 : tree.low (of_heads heads) (name_at heads d) ≤ tree.low (of_heads heads) (name_at heads c) = w.0 in
    let w1 : tree.low (of_heads heads) (name_at heads c) < tree.high (of_heads heads) (name_at heads d) = w.1 in
    test.1 (omega arith, omega arith))

-- ---- pairs

pub pair_to_interface : (heads : List ClassHead) → AreDistinct heads → IsRooted heads → (s t : ℕ) → s < length heads → t < length heads → interface_at heads t ≡ true
    → (interface_at heads s || not (0 == s)) ≡ class_pair (of_heads heads) (name_at heads s) (name_at heads t)
pair_to_interface heads distinct rooted s t few less it =
    let root : IsClassAt heads 0 = root_class heads rooted in
    let named : bytes_eq (name_at heads s) object_name ≡ 0 == s = sym (ap (bytes_eq (name_at heads s)) (root_name heads rooted)) ∙ same_number heads distinct s 0 few root.within in
    sym (ap (λ b. cond b (is_interface (of_heads heads) (name_at heads s) || not (bytes_eq (name_at heads s) object_name)) (is_below (of_heads heads) (name_at heads s) (name_at heads t))) (sym (kind_at heads distinct t less) ∙ it)
    ∙ (ap (λ b. b || not (bytes_eq (name_at heads s) object_name)) (sym (kind_at heads distinct s few)) ∙ ap (λ b. interface_at heads s || not b) named))

pub pair_to_class : (heads : List ClassHead) → AreDistinct heads → (s t : ℕ) → t < length heads → interface_at heads t ≡ false
    → is_below (of_heads heads) (name_at heads s) (name_at heads t) ≡ class_pair (of_heads heads) (name_at heads s) (name_at heads t)
pair_to_class heads distinct s t less it =
    sym (ap (λ b. cond b (is_interface (of_heads heads) (name_at heads s) || not (bytes_eq (name_at heads s) object_name)) (is_below (of_heads heads) (name_at heads s) (name_at heads t))) (sym (kind_at heads distinct t less) ∙ it))

-- ---- the next class

abbrev turn : List ClassHead → ℕ → Bool → Option Named
turn heads k b = cond b None (slice_get (tree.preorder (of_heads heads)) (tree.low (of_heads heads) (name_at heads k)))

pub next_none : (heads : List ClassHead) → AreDistinct heads → (k : ℕ) → k < length heads → interface_at heads k ≡ true → ◌≡◌ {A = Option Named} None (tree.next_in_tree (of_heads heads) (name_at heads k))
next_none heads distinct k few it = sym (ap (turn heads k) (sym (kind_at heads distinct k few) ∙ it))

pub next_is : (heads : List ClassHead) → AreDistinct heads → (k n : ℕ) (order : List ℕ) → k < length heads → interface_at heads k ≡ false → names_at heads order ≡ tree.preorder (of_heads heads)
    → n ≡ tree.low (of_heads heads) (name_at heads k) → option_map (name_at heads) (slice_get order n) ≡ tree.next_in_tree (of_heads heads) (name_at heads k)
next_is heads distinct k n order few it whole e =
    sym (slice_get-map (name_at heads) order n)
    ∙ (ap (λ l. slice_get l n) whole ∙ (ap (slice_get (tree.preorder (of_heads heads))) e ∙ sym (ap (turn heads k) (sym (kind_at heads distinct k few) ∙ it))))
