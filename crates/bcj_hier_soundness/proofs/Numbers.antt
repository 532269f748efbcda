-- The numbers of classes by their places in preorder.
use Rattle.std.proofs.Common.{◌≡◌, ◌+◌, ◌<◌, ◌≤◌, nat_lt, List, [], ◌∷◌, ◌++◌, flat_map, position, count_by, Some, None, Bool, true, false, not, cond, ◌||◌, ◌⊎◌, refl, sym, ◌∙◌, ap, subst, ℕ, zero, suc, length, inl, inr, arith, length-append}
use Rattle.std.proofs.lemmas.Bool.{cases_Bool, or_cases, or_parts, lt-ltb}
use Rattle.std.proofs.lemmas.List.Sums.{sum_by-cons, sum_by-append}
use Rattle.std.proofs.lemmas.List.Folds.{list_any_at}
use Rattle.std.specs.List.{position_or_len}
use Rattle.std.specs.Str.{bytes_eq}
use Rattle.bcj_symbolic_trees.specs.Names.{object_name}
use Rattle.bcj_hier_rules.specs.Shapes.{Named, Mixture}
use Rattle.bcj_hier_rules.specs.Loading.{is_interface, turns, load_error, Below}
use Rattle.bcj_hier_rules.specs.Trees.{children, preorder_within, preorder_of, preorder, number_behind, low, high}
use Rattle.bcj_hier_soundness.specs.Laws as law
use Rattle.bcj_hier_soundness.proofs.Names.{is_in, same_bytes, bytes_same, in_middle}
use Rattle.bcj_hier_soundness.proofs.Circles.{interface_by, Class, Child, class_of, class_itself, below_itself, no_circle}
use Rattle.bcj_hier_soundness.proofs.Children.{child_of}
use Rattle.bcj_hier_soundness.proofs.Preorder.{Part, part, below_object, stand_below, Among, among}

-- ---- places

abbrev place : Named → List Named → ℕ
place c xs = position_or_len (bytes_eq c) xs

abbrev number : Named → List Named → ℕ
number c xs = number_behind (position (bytes_eq c) xs)

number_by : (b : Bool) (k : ℕ) → number_behind (cond b (Some k) None) ≡ cond b (suc k) 0
number_by true k = refl
number_by false k = refl

numbered : (c : Named) (xs : List Named) → place c xs < length xs → number c xs ≡ suc (place c xs)
numbered c xs few = number_by (nat_lt (place c xs) (length xs)) (place c xs) ∙ ap (λ b. cond b (suc (place c xs)) 0) (lt-ltb (place c xs) (length xs) few)

number_cases : (c : Named) (xs : List Named) → (number c xs ≡ 0) ⊎ (number c xs ≡ suc (place c xs))
number_cases c xs =
    let is_it : number c xs ≡ cond (nat_lt (place c xs) (length xs)) (suc (place c xs)) 0 = number_by (nat_lt (place c xs) (length xs)) (place c xs) in
    elim (cases_Bool (nat_lt (place c xs) (length xs))) [
      | inl few ↦ inr (is_it ∙ ap (λ b. cond b (suc (place c xs)) 0) few)
      | inr none ↦ inl (is_it ∙ ap (λ b. cond b (suc (place c xs)) 0) none)
    ]

-- behind a list that it isn't in
place_behind : (c : Named) (a b : List Named) → is_in c a ≡ false → place c (a ++ b) ≡ length a + place c b
place_behind c [] b out = omega arith
place_behind c (x ∷ xs) b out =
    let parts : (bytes_eq c x ≡ false) × (is_in c xs ≡ false) = or_parts (bytes_eq c x) (is_in c xs) out in
    let rest : place c (xs ++ b) ≡ length xs + place c b = place_behind c xs b parts.1 in
    let first : place c (x ∷ (xs ++ b)) ≡ 1 + place c (xs ++ b) = ap (λ t. cond (not t) (1 + place c (xs ++ b)) 0) parts.0 in
    omega arith

-- in the list in front
place_in_front : (c : Named) (a b : List Named) → is_in c a ≡ true → place c (a ++ b) < length a
place_in_front c [] b inside = cc
place_in_front c (x ∷ xs) b inside =
    elim (cases_Bool (bytes_eq c x)) [
      | inl it ↦
          let first : place c (x ∷ (xs ++ b)) ≡ 0 = ap (λ t. cond (not t) (1 + place c (xs ++ b)) 0) it in
          omega arith
      | inr other ↦
          let later : is_in c xs ≡ true = ap (λ t. t || is_in c xs) (sym other) ∙ inside in
          let rest : place c (xs ++ b) < length xs = place_in_front c xs b later in
          let first : place c (x ∷ (xs ++ b)) ≡ 1 + place c (xs ++ b) = ap (λ t. cond (not t) (1 + place c (xs ++ b)) 0) other in
          omega arith
    ]

-- in the middle of three lists
number_middle : (c : Named) (a b d : List Named) → is_in c a ≡ false → is_in c b ≡ true → (length a < number c (a ++ (b ++ d))) × (number c (a ++ (b ++ d)) ≤ length a + length b)
number_middle c a b d out inside =
    let behind : place c (a ++ (b ++ d)) ≡ length a + place c (b ++ d) = place_behind c a (b ++ d) out in
    let front : place c (b ++ d) < length b = place_in_front c b d inside in
    let all : length (a ++ (b ++ d)) ≡ length a + (length b + length d) = length-append a (b ++ d) ∙ ap (λ n. length a + n) (length-append b d) in
    let few : place c (a ++ (b ++ d)) < length (a ++ (b ++ d)) = omega arith in
    let is_it : number c (a ++ (b ++ d)) ≡ suc (place c (a ++ (b ++ d))) = numbered c (a ++ (b ++ d)) few in
    (omega arith, omega arith)

-- not in the middle
number_outside : (c : Named) (a b d : List Named) → is_in c b ≡ false → length a < number c (a ++ (b ++ d)) → number c (a ++ (b ++ d)) ≤ length a + length b → ⊥
number_outside c a b d out low_end high_end =
    elim (number_cases c (a ++ (b ++ d))) [
      | inl none ↦ omega arith
      | inr is_it ↦
          elim (cases_Bool (is_in c a)) [
            | inl front ↦
                let few : place c (a ++ (b ++ d)) < length a = place_in_front c a (b ++ d) front in
                omega arith
            | inr other ↦
                let behind : place c (a ++ (b ++ d)) ≡ length a + place c (b ++ d) = place_behind c a (b ++ d) other in
                let more : place c (b ++ d) ≡ length b + place c d = place_behind c b d out in
                omega arith
          ]
    ]

-- the first of the middle
number_first : (c : Named) (a b d : List Named) → is_in c a ≡ false → number c (a ++ ((c ∷ b) ++ d)) ≡ suc (length a)
number_first c a b d out =
    let behind : place c (a ++ ((c ∷ b) ++ d)) ≡ length a + place c ((c ∷ b) ++ d) = place_behind c a ((c ∷ b) ++ d) out in
    let first : place c (c ∷ (b ++ d)) ≡ 0 = ap (λ t. cond (not t) (1 + place c (b ++ d)) 0) (bytes_same c) in
    let all : length (a ++ ((c ∷ b) ++ d)) ≡ length a + length (c ∷ (b ++ d)) = length-append a ((c ∷ b) ++ d) in
    let few : place c (a ++ ((c ∷ b) ++ d)) < length (a ++ ((c ∷ b) ++ d)) = omega arith in
    let is_it : number c (a ++ ((c ∷ b) ++ d)) ≡ suc (place c (a ++ ((c ∷ b) ++ d))) = numbered c (a ++ ((c ∷ b) ++ d)) few in
    omega arith

-- ---- intervals

outside : (m : Mixture) (x d : Named) (names : List Named) → ((y : Named) → is_in y names ≡ true → Below m y d → ⊥) → Below m x d → is_in x names ≡ false
outside m x d names none b =
    elim (cases_Bool (is_in x names)) [ inl inside ↦ absurd (none x inside b) | inr out ↦ out ]

-- a class stands in the part of each class above it
inside_part : (m : Mixture) → law.IsHierarchy m → (c d : Named) → load_error m c ≡ None → Below m c d → is_in c (preorder_of m d) ≡ true
inside_part m h c d ok b =
    let p : Part m (preorder_of m d) c = part m h c d ok b in
    let rest : List Named = flat_map (preorder_within (length m) m) (children m c) in
    ap (is_in c) p.is_part ∙ in_middle c p.before (rest ++ p.behind)

low_of_part : (m : Mixture) (d : Named) → Class m d → (p : Part m (preorder m) d) → low m d ≡ suc (length p.before)
low_of_part m d k p =
    let rest : List Named = flat_map (preorder_within (length m) m) (children m d) in
    ap (number d) p.is_part ∙ number_first d p.before rest p.behind (outside m d d p.before p.none_before (below_itself m d k))

high_of_part : (m : Mixture) (d : Named) → is_interface m d ≡ false → high m d ≡ low m d + length (preorder_of m d)
high_of_part m d class = ap (λ b. cond b 0 (low m d + length (preorder_of m d))) class

within_interval : (m : Mixture) → law.IsHierarchy m → (c d : Named) → load_error m c ≡ None → Class m d → (p : Part m (preorder m) d) → is_interface m d ≡ false → Below m c d
    → (low m d ≤ low m c) × (low m c < high m d)
within_interval m h c d ok k p class b =
    let at : low m d ≡ suc (length p.before) = low_of_part m d k p in
    let end : high m d ≡ low m d + length (preorder_of m d) = high_of_part m d class in
    let middle : (length p.before < number c (p.before ++ (preorder_of m d ++ p.behind))) × (number c (p.before ++ (preorder_of m d ++ p.behind)) ≤ length p.before + length (preorder_of m d)) =
    number_middle c p.before (preorder_of m d) p.behind (outside m c d p.before p.none_before b) (inside_part m h c d ok b) in
    let here_it : low m c ≡ number c (p.before ++ (preorder_of m d ++ p.behind)) = ap (number c) p.is_part in
    let from : length p.before < number c (p.before ++ (preorder_of m d ++ p.behind)) = middle.0 in
    let to : number c (p.before ++ (preorder_of m d ++ p.behind)) ≤ length p.before + length (preorder_of m d) = middle.1 in
    (omega arith, omega arith)

below_by_numbers : (m : Mixture) → law.IsHierarchy m → (c d : Named) → Class m d → (p : Part m (preorder m) d) → is_interface m d ≡ false → low m d ≤ low m c → low m c < high m d → Below m c d
below_by_numbers m h c d k p class from to =
    let at : low m d ≡ suc (length p.before) = low_of_part m d k p in
    let end : high m d ≡ low m d + length (preorder_of m d) = high_of_part m d class in
    let here_it : low m c ≡ number c (p.before ++ (preorder_of m d ++ p.behind)) = ap (number c) p.is_part in
    elim (cases_Bool (is_in c (preorder_of m d))) [
      | inl inside ↦ stand_below m h (turns m) d k c inside
      | inr out ↦ absurd (number_outside c p.before (preorder_of m d) p.behind out (omega arith) (omega arith))
    ]

pub below_by_interval : law.BelowByInterval
below_by_interval m h c d okc okd classc classd =
    let k : Class m d = class_of m d okd classd in
    let p : Part m (preorder m) d = part m h d object_name okd (below_object m h d okd classd) in
    (λ b. within_interval m h c d okc k p classd b, λ w. below_by_numbers m h c d k p classd w.0 w.1)

-- ---- each class once

pub count_none : (c : Named) (xs : List Named) → is_in c xs ≡ false → count_by (bytes_eq c) xs ≡ 0
count_none c [] out = refl
count_none c (x ∷ xs) out =
    let parts : (bytes_eq c x ≡ false) × (is_in c xs ≡ false) = or_parts (bytes_eq c x) (is_in c xs) out in
    sum_by-cons (λ y. cond (bytes_eq c y) 1 0) x xs ∙ (ap (λ b. cond b 1 0 + count_by (bytes_eq c) xs) parts.0 ∙ (ap (λ n. 0 + n) (count_none c xs parts.1)))

-- none of the children's parts has the class itself
not_below_children : (m : Mixture) → law.IsHierarchy m → (n : ℕ) (c : Named) → Class m c → is_in c (flat_map (preorder_within n m) (children m c)) ≡ false
not_below_children m h n c k =
    elim (cases_Bool (is_in c (flat_map (preorder_within n m) (children m c)))) [
      | inl inside ↦
          let a : Among (preorder_within n m) (children m c) c = among (preorder_within n m) (children m c) c inside in
          let e : Child m c a.name = child_of m h c a.name a.is_there in
          absurd (no_circle m c a.name e (stand_below m h n a.name (class_itself m c a.name e) c a.inside))
      | inr out ↦ out
    ]

count_once : (c : Named) (a b d : List Named) → is_in c a ≡ false → is_in c b ≡ false → is_in c d ≡ false → count_by (bytes_eq c) (a ++ ((c ∷ b) ++ d)) ≡ 1
count_once c a b d outa outb outd =
    let f : Named → ℕ = λ y. cond (bytes_eq c y) 1 0 in
    let first : count_by (bytes_eq c) (c ∷ (b ++ d)) ≡ 1 + count_by (bytes_eq c) (b ++ d) = sum_by-cons f c (b ++ d) ∙ ap (λ t. cond t 1 0 + count_by (bytes_eq c) (b ++ d)) (bytes_same c) in
    let whole : count_by (bytes_eq c) (a ++ ((c ∷ b) ++ d)) ≡ count_by (bytes_eq c) a + count_by (bytes_eq c) (c ∷ (b ++ d)) = sum_by-append f a (c ∷ (b ++ d)) in
    let rest : count_by (bytes_eq c) (b ++ d) ≡ count_by (bytes_eq c) b + count_by (bytes_eq c) d = sum_by-append f b d in
    let na : count_by (bytes_eq c) a ≡ 0 = count_none c a outa in
    let nb : count_by (bytes_eq c) b ≡ 0 = count_none c b outb in
    let nd : count_by (bytes_eq c) d ≡ 0 = count_none c d outd in
    omega arith

pub each_class_stands_once : law.EachClassStandsOnce
each_class_stands_once m h c ok class =
    let k : Class m c = class_of m c ok class in
    let p : Part m (preorder m) c = part m h c object_name ok (below_object m h c ok class) in
    let rest : List Named = flat_map (preorder_within (length m) m) (children m c) in
    ap (count_by (bytes_eq c)) p.is_part
    ∙ count_once c p.before rest p.behind (outside m c c p.before p.none_before (below_itself m c k)) (not_below_children m h (length m) c k) (outside m c c p.behind p.none_behind (below_itself m c k))

-- ---- nothing else

pub stands_class : (m : Mixture) → law.IsHierarchy m → (n : ℕ) (d : Named) → Class m d → (x : Named) → is_in x (preorder_within n m d) ≡ true → Class m x
stands_class m h zero d k x i = cc
stands_class m h (suc n) d k x i =
    let P : Named → Type 0 = λ y. Class m y in
    elim (or_cases (bytes_eq x d) (is_in x (flat_map (preorder_within n m) (children m d))) i) [
      | inl it ↦ subst P (sym (same_bytes x d it)) k
      | inr other ↦
          let a : Among (preorder_within n m) (children m d) x = among (preorder_within n m) (children m d) x other in
          stands_class m h n a.name (class_itself m d a.name (child_of m h d a.name a.is_there)) x a.inside
    ]

pub each_that_stands_loads : law.EachThatStandsLoads
each_that_stands_loads m h ok class c stands =
    let inside : is_in c (preorder m) ≡ true = list_any_at (bytes_eq c) (preorder m) stands.0 c stands.1 (ap (bytes_eq c) stands.2 ∙ bytes_same c) in
    let k : Class m c = stands_class m h (turns m) object_name (class_of m object_name ok class) c inside in
    (k.loads, ap interface_by k.is_it ∙ k.class)
