-- The image has the words of its classes, of the types that load and of the arrays.
use Rattle.std.proofs.Common.{◌≡◌, ℕ, suc, ◌+◌, ◌*◌, List, [], ◌∷◌, ◌++◌, Bool, true, false, cond, ◌&&◌, map, sum, take, length, refl, sym, ◌∙◌, ap, inl, inr, arith}
use Rattle.std.proofs.Math.Seq.{take-length}
use Rattle.std.proofs.lemmas.List.Sums.{sum-map, sum_by-append, sum_by-cons}
use Rattle.std.proofs.lemmas.Bool.{and_parts, cases_Bool}
use Rattle.std.specs.List.{fold, filter, list_any, list_all, sum_by}
use Rattle.bcj_symbolic_trees.specs.Types.{PlainTy, int_type, bool_type, void_type, class_type, array_type}
use Rattle.bcj_symbolic_trees.specs.Same.{same_type}
use Rattle.bcj_hier_rules.specs.Shapes.{Named}
use Rattle.bcj_layout_rules.specs.Members.{slots}
use Rattle.bcj_layout_rules.specs.Rows.{Classes, mixture_of, loaded, array_types, row_types, arrays_in, with_type, with_arrays, mentioned, arguments_type, element_loads}
use Rattle.bcj_layout_rules.specs.Places.{class_words, region_words, statics_in, dispatch_words, row_head, row_words, start_words, start_region_words, empty_dispatch, heap_at, start_at, word_size}
use Rattle.bcj_layout_total.specs.function.Sizes.{class_size, size_in_words}

-- ---- sums

regrouped : (a b m n : ℕ) → a + b + (m + n) ≡ (a + m) + (b + n)
regrouped a b m n = omega arith

sums_apart : {A : Type 0} (f g : A → ℕ) (xs : List A) → sum_by (λ x. f x + g x) xs ≡ sum_by f xs + sum_by g xs
sums_apart f g [] = refl
sums_apart f g (x ∷ xs) =
    sum_by-cons (λ y. f y + g y) x xs
    ∙ (ap (λ n. f x + g x + n) (sums_apart f g xs)
    ∙ (regrouped (f x) (g x) (sum_by f xs) (sum_by g xs) ∙ sym (λ i. sum_by-cons f x xs i + sum_by-cons g x xs i)))

pub sum_apart : {A : Type 0} (f g : A → ℕ) (xs : List A) → sum (map (λ x. f x + g x) xs) ≡ sum (map f xs) + sum (map g xs)
sum_apart f g xs = sum-map (λ x. f x + g x) xs ∙ (sums_apart f g xs ∙ sym (λ i. sum-map f xs i + sum-map g xs i))

pub sum_append : {A : Type 0} (f : A → ℕ) (xs ys : List A) → sum (map f (xs ++ ys)) ≡ sum (map f xs) + sum (map f ys)
sum_append f xs ys = sum-map f (xs ++ ys) ∙ (sum_by-append f xs ys ∙ sym (λ i. sum-map f xs i + sum-map f ys i))

-- the words of classes: of their code, their tables and their static fields
pub sum_three : (cs : Classes) → sum (map class_size cs) ≡ sum (map class_words cs) + (sum (map region_words cs) + sum (map (λ c. length (statics_in c)) cs))
sum_three cs =
    sum_apart class_words (λ c. region_words c + length (statics_in c)) cs
    ∙ ap (λ n. sum (map class_words cs) + n) (sum_apart region_words (λ c. length (statics_in c)) cs)

-- ---- rows of arrays have no slots

abbrev is_array : PlainTy → Bool
is_array (array_type t) = true
is_array _ = false

-- each test passes for what it passed for before and for one more
all_behind : {A : Type 0} (p : A → Bool) (xs : List A) (y : A) → list_all p xs ≡ true → p y ≡ true → list_all p (xs ++ y ∷ []) ≡ true
all_behind p [] y all it = ap (λ b. b && true) it
all_behind p (x ∷ xs) y all it =
    let parts : (p x ≡ true) × (list_all p xs ≡ true) = and_parts (p x) (list_all p xs) all in
    ap (λ b. b && list_all p (xs ++ y ∷ [])) parts.0 ∙ all_behind p xs y parts.1 it

all_appended : {A : Type 0} (p : A → Bool) (xs ys : List A) → list_all p xs ≡ true → list_all p ys ≡ true → list_all p (xs ++ ys) ≡ true
all_appended p [] ys all more = more
all_appended p (x ∷ xs) ys all more =
    let parts : (p x ≡ true) × (list_all p xs ≡ true) = and_parts (p x) (list_all p xs) all in
    ap (λ b. b && list_all p (xs ++ ys)) parts.0 ∙ all_appended p xs ys parts.1 more

all_filtered : {A : Type 0} (p q : A → Bool) (xs : List A) → list_all p xs ≡ true → list_all p (filter q xs) ≡ true
all_filtered p q [] all = refl
all_filtered p q (x ∷ xs) all =
    let parts : (p x ≡ true) × (list_all p xs ≡ true) = and_parts (p x) (list_all p xs) all in
    elim (cases_Bool (q x)) [
      | inl it ↦ ap (λ b. list_all p (cond b (x ∷ filter q xs) (filter q xs))) it ∙ (ap (λ b. b && list_all p (filter q xs)) parts.0 ∙ all_filtered p q xs parts.1)
      | inr other ↦ ap (λ b. list_all p (cond b (x ∷ filter q xs) (filter q xs))) other ∙ all_filtered p q xs parts.1
    ]

in_arrays : (t : PlainTy) → list_all is_array (arrays_in t) ≡ true
in_arrays (array_type t) = all_behind is_array (arrays_in t) (array_type t) (in_arrays t) refl
in_arrays int_type = refl
in_arrays bool_type = refl
in_arrays void_type = refl
in_arrays (class_type name) = refl

with_one : (ts : List PlainTy) (t : PlainTy) → list_all is_array ts ≡ true → is_array t ≡ true → list_all is_array (with_type ts t) ≡ true
with_one ts t all it =
    elim (cases_Bool (list_any (same_type t) ts)) [
      | inl there ↦ ap (λ b. list_all is_array (cond b ts (ts ++ t ∷ []))) there ∙ all
      | inr new ↦ ap (λ b. list_all is_array (cond b ts (ts ++ t ∷ []))) new ∙ all_behind is_array ts t all it
    ]

with_each : (ts more : List PlainTy) → list_all is_array ts ≡ true → list_all is_array more ≡ true → list_all is_array (fold with_type ts more) ≡ true
with_each ts [] all it = all
with_each ts (t ∷ more) all it =
    let parts : (is_array t ≡ true) × (list_all is_array more ≡ true) = and_parts (is_array t) (list_all is_array more) it in
    with_each (with_type ts t) more (with_one ts t all parts.0) parts.1

with_all : (ts more : List PlainTy) → list_all is_array ts ≡ true → list_all is_array (fold with_arrays ts more) ≡ true
with_all ts [] all = all
with_all ts (t ∷ more) all = with_all (with_arrays ts t) more (with_each ts (arrays_in t) all (in_arrays t))

are_arrays : (cs : Classes) → list_all is_array (array_types cs) ≡ true
are_arrays cs = all_filtered is_array (element_loads cs) (fold with_arrays [] (mentioned cs ++ arguments_type ∷ [])) (with_all [] (mentioned cs ++ arguments_type ∷ []) refl)

one_more : (n : ℕ) → row_head + row_head * n ≡ row_head * suc n
one_more n = omega arith

array_words : (cs : Classes) (main : Named) (ts : List PlainTy) → list_all is_array ts ≡ true → sum_by (row_words cs main) ts ≡ row_head * length ts
array_words cs main [] all = refl
array_words cs main (array_type t ∷ ts) all = sum_by-cons (row_words cs main) (array_type t) ts ∙ (ap (λ n. row_head + n) (array_words cs main ts all) ∙ one_more (length ts))
array_words cs main (int_type ∷ ts) all = cc
array_words cs main (bool_type ∷ ts) all = cc
array_words cs main (void_type ∷ ts) all = cc
array_words cs main (class_type name ∷ ts) all = cc

abbrev with_slots : Classes → Named → ℕ
with_slots cs name = row_head + length (slots (mixture_of cs) name)

class_rows : (cs : Classes) (main : Named) (names : List Named) → sum_by (row_words cs main) (map class_type names) ≡ sum_by (with_slots cs) names
class_rows cs main [] = refl
class_rows cs main (name ∷ names) =
    sum_by-cons (row_words cs main) (class_type name) (map class_type names)
    ∙ (ap (λ n. with_slots cs name + n) (class_rows cs main names) ∙ sym (sum_by-cons (with_slots cs) name names))

-- the words of all rows
all_rows : (cs : Classes) (main : Named) → sum (map (row_words cs main) (row_types cs)) ≡ sum (map (with_slots cs) (loaded cs)) + row_head * length (array_types cs)
all_rows cs main =
    sum_append (row_words cs main) (map class_type (loaded cs)) (array_types cs)
    ∙ λ i. (sum-map (row_words cs main) (map class_type (loaded cs)) ∙ (class_rows cs main (loaded cs) ∙ sym (sum-map (with_slots cs) (loaded cs)))) i
    + (sum-map (row_words cs main) (array_types cs) ∙ array_words cs main (array_types cs) (are_arrays cs)) i

abbrev whole : (start classes regions statics rows dispatch arrays : ℕ) → ℕ
whole start classes regions statics rows dispatch arrays =
    start_at + word_size * start + word_size * classes + word_size * (rows + row_head * arrays) + word_size * (1 + dispatch) + word_size * (3 + regions) + word_size * statics

heap_by_parts : (cs : Classes) (main : Named) → heap_at cs main
    ≡ whole (start_words cs main) (sum (map class_words cs)) (sum (map region_words cs)) (sum (map (λ c. length (statics_in c)) cs)) (sum (map (with_slots cs) (loaded cs)))
    (sum (map (dispatch_words cs) (loaded cs))) (length (array_types cs))
heap_by_parts cs main =
    let classes : take (length cs) cs ≡ cs = take-length cs in
    let types : take (length (loaded cs)) (loaded cs) ≡ loaded cs = take-length (loaded cs) in
    let rows : take (length (row_types cs)) (row_types cs) ≡ row_types cs = take-length (row_types cs) in
    λ i. start_at + word_size * start_words cs main + word_size * sum (map class_words (classes i))
    + word_size * (ap (λ ts. sum (map (row_words cs main) ts)) rows ∙ all_rows cs main) i
    + word_size * (1 + sum (map (dispatch_words cs) (types i)))
    + word_size * (3 + sum (map region_words (classes i)))
    + word_size * sum (map (λ c. length (statics_in c)) (classes i))

gathered : (start classes regions statics rows dispatch arrays : ℕ) → whole start classes regions statics rows dispatch arrays
    ≡ start_at + word_size * (start + (3 + (1 + ((classes + (regions + statics)) + ((rows + dispatch) + row_head * arrays)))))
gathered start classes regions statics rows dispatch arrays = omega arith

-- the heap begins behind the words of all parts
pub heap_behind_words : (cs : Classes) (main : Named) → heap_at cs main ≡ start_at + word_size * size_in_words cs main
heap_behind_words cs main =
    heap_by_parts cs main
    ∙ (gathered (start_words cs main) (sum (map class_words cs)) (sum (map region_words cs)) (sum (map (λ c. length (statics_in c)) cs)) (sum (map (with_slots cs) (loaded cs)))
    (sum (map (dispatch_words cs) (loaded cs))) (length (array_types cs))
    ∙ sym (λ i. start_at + word_size * (start_words cs main + (start_region_words cs main + (empty_dispatch cs main + (sum_three cs i
    + (sum_apart (with_slots cs) (dispatch_words cs) (loaded cs) i + row_head * length (array_types cs))))))))

-- the words in the order in which they are added
pub words_gathered : (start classes types arrays : ℕ) → start + 4 + classes + types + 4 * arrays ≡ start + (3 + (1 + (classes + (types + row_head * arrays))))
words_gathered start classes types arrays = omega arith
