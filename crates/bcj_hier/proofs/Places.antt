-- Numbers of names.
use Rattle.std.proofs.Common.{◌≡◌, ◌<◌, ◌≤◌, ◌+◌, ◌||◌, suc, Bool, true, false, not, cond, nat_lt, List, [], ◌∷◌, map, length, position, None, Some, refl, sym, ◌∙◌, ap, arith, inl, inr}
use Rattle.std.proofs.lemmas.Bool.{cases_Bool, or_parts, lt-ltb, le-ltb}
use Rattle.std.specs.List.{position_or_len, list_any}
use Rattle.std.specs.Str.{bytes_eq}
use Rattle.bcj_symbolic_trees.specs.declared.class_tree.ClassHead.{ClassHead}
use Rattle.bcj_hier_rules.specs.Shapes.{Named}
use Rattle.bcj_hier_rules.specs.Heads.{number_of, is_called}
use Rattle.bcj_hier_soundness.proofs.Names.{same_bytes, bytes_same}
use Rattle.bcj_hier_soundness.proofs.Circles.{other_way}
use Rattle.bcj_hier.specs.Numbers.{names_of, numbered}

pub either_way : (a b : Named) → bytes_eq a b ≡ bytes_eq b a
either_way a b =
    elim (cases_Bool (bytes_eq a b)) [
      | inl same ↦ same ∙ sym (ap (λ c. bytes_eq c a) (sym (same_bytes a b same)) ∙ bytes_same a)
      | inr other ↦ other ∙ sym (other_way a b other)
    ]

-- a place among the images of items
pub place_of_images : {A B : Type 0} (f : A → B) (p : B → Bool) (xs : List A) → position_or_len p (map f xs) ≡ position_or_len (λ x. p (f x)) xs
place_of_images f p [] = refl
place_of_images f p (x ∷ xs) = ap (λ n. cond (not (p (f x))) (1 + n) 0) (place_of_images f p xs)

pub length_of_images : {A B : Type 0} (f : A → B) (xs : List A) → length (map f xs) ≡ length xs
length_of_images f [] = refl
length_of_images f (x ∷ xs) = ap suc (length_of_images f xs)

pub position_of_images : {A B : Type 0} (f : A → B) (p : B → Bool) (xs : List A) → position p (map f xs) ≡ position (λ x. p (f x)) xs
position_of_images f p xs =
    ap (λ n. cond (nat_lt n (length (map f xs))) (Some n) None) (place_of_images f p xs) ∙ ap (λ n. cond (nat_lt (position_or_len (λ x. p (f x)) xs) n) (Some (position_or_len (λ x. p (f x)) xs)) None) (length_of_images f xs)

place_alike : {A : Type 0} (p q : A → Bool) → ((x : A) → p x ≡ q x) → (xs : List A) → position_or_len p xs ≡ position_or_len q xs
place_alike p q alike [] = refl
place_alike p q alike (x ∷ xs) = ap (λ b. cond (not b) (1 + position_or_len p xs) 0) (alike x) ∙ ap (λ n. cond (not (q x)) (1 + n) 0) (place_alike p q alike xs)

position_alike : {A : Type 0} (p q : A → Bool) → ((x : A) → p x ≡ q x) → (xs : List A) → position p xs ≡ position q xs
position_alike p q alike xs = ap (λ n. cond (nat_lt n (length xs)) (Some n) None) (place_alike p q alike xs)

-- the number of a name among the names of heads is that among the heads
pub numbered_is : (heads : List ClassHead) (name : Named) → numbered (names_of heads) name ≡ number_of heads name
numbered_is heads name =
    position_of_images (λ (h : ClassHead). h.name) (bytes_eq name) heads ∙ position_alike (λ (h : ClassHead). bytes_eq name h.name) (is_called name) (λ h. either_way name h.name) heads

-- what no item passes has no place
pub none_passes : {A : Type 0} (p : A → Bool) (xs : List A) → list_any p xs ≡ false → position_or_len p xs ≡ length xs
none_passes p [] h = refl
none_passes p (x ∷ xs) h =
    let parts : (p x ≡ false) × (list_any p xs ≡ false) = or_parts (p x) (list_any p xs) h in
    let rest : position_or_len p xs ≡ length xs = none_passes p xs parts.1 in
    let first : position_or_len p (x ∷ xs) ≡ 1 + position_or_len p xs = ap (λ b. cond (not b) (1 + position_or_len p xs) 0) parts.0 in
    omega arith

pub one_passes : {A : Type 0} (p : A → Bool) (xs : List A) → list_any p xs ≡ true → position_or_len p xs < length xs
one_passes p [] h = cc
one_passes p (x ∷ xs) h =
    elim (cases_Bool (p x)) [
      | inl it ↦
          let first : position_or_len p (x ∷ xs) ≡ 0 = ap (λ b. cond (not b) (1 + position_or_len p xs) 0) it in
          omega arith
      | inr other ↦
          let rest : position_or_len p xs < length xs = one_passes p xs (ap (λ b. b || list_any p xs) (sym other) ∙ h) in
          let first : position_or_len p (x ∷ xs) ≡ 1 + position_or_len p xs = ap (λ b. cond (not b) (1 + position_or_len p xs) 0) other in
          omega arith
    ]

-- the place of the first that passes, where one does
pub position_by : {A : Type 0} (p : A → Bool) (xs : List A) → cond (not (list_any p xs)) None (Some (position_or_len p xs)) ≡ position p xs
position_by p xs =
    elim (cases_Bool (list_any p xs)) [
      | inl some ↦
          let few : position_or_len p xs < length xs = one_passes p xs some in
          ap (λ b. cond (not b) None (Some (position_or_len p xs))) some ∙ sym (ap (λ b. cond b (Some (position_or_len p xs)) None) (lt-ltb _ _ few))
      | inr none ↦
          let many : length xs ≤ position_or_len p xs = let e : position_or_len p xs ≡ length xs = none_passes p xs none in omega arith in
          ap (λ b. cond (not b) None (Some (position_or_len p xs))) none ∙ sym (ap (λ b. cond b (Some (position_or_len p xs)) None) (le-ltb _ _ many))
    ]
