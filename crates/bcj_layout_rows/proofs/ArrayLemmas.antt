-- Array types put into a set one by one.
use Rattle.std.proofs.Common.{◌≡◌, refl, ap, sym, subst, ◌∙◌, Bool, true, false, cond, ◌||◌, List, [], ◌∷◌, ◌++◌, map, filter, if◌then◌else◌, IfOk, Ok, Err, append_assoc, true≢false}
use Rattle.std.proofs.lemmas.List.{append-nil}
use Rattle.std.specs.List.{fold, list_any, IsDistinct, AllByRecursion}
use Rattle.std.specs.Cmp.{decided}
use Rattle.std.proofs.lemmas.Map.Keys.{IsDistinct-push, IsDistinct-head, IsDistinct-tail, IsDistinct-cons}
use Rattle.indexmap.specs.IndexSet.{insert_key}
use Rattle.std.specs.Prelude.{Result, position}
use Rattle.std.specs.declared.alloc.AllocError.{AllocError}
use Rattle.bcj_symbolic_trees.specs.declared.type_tree.Ty.{Ty}
use Rattle.bcj_symbolic_trees.specs.Types.{PlainTy, array_type, types_of}
use Rattle.bcj_symbolic_trees.specs.Same.{same_type}
use Rattle.bcj_symbolic_trees.proofs.SameLemmas.{same_type-Decides}
use Rattle.bcj_layout_rules.specs.Rows.{Classes, arrays_in, with_type, with_arrays, mentioned, arguments_type, element_loads, array_types}
use Rattle.bcj_layout_rows.specs.declared.keys.TypeKey.{TypeKey}
use Rattle.bcj_layout_rows.specs.Keys.{type_in}
use Rattle.bcj_layout_rows.proofs.ListLemmas.{each-kept}
use Rattle.bcj_layout_rows.proofs.KeyLemmas.{insert_key-map, position-map}

-- a type put into the set goes behind those that it stands for, unless it is there
pub put-type : (keys : List TypeKey) (k : TypeKey) → map type_in (insert_key (λ (x y : TypeKey). same_type (type_in x) (type_in y)) keys k) ≡ with_type (map type_in keys) (type_in k)
put-type keys k = insert_key-map same_type type_in keys k

-- the place of a type in the set is its place among those that it stands for
pub type-position : (keys : List TypeKey) (k : TypeKey) → position (λ (x : TypeKey). same_type (type_in k) (type_in x)) keys ≡ position (same_type (type_in k)) (map type_in keys)
type-position keys k = position-map same_type type_in keys k

-- a fold over two lists goes on from the first
fold-append : {A B : Type 0} (f : B → A → B) (b : B) (xs ys : List A) → fold f b (xs ++ ys) ≡ fold f (fold f b xs) ys
fold-append f b [] ys = refl
fold-append f b (x ∷ xs) ys = fold-append f (f b x) xs ys

-- an array type goes behind those of its component
pub put-array : (types : List PlainTy) (component : PlainTy) → with_arrays types (array_type component) ≡ with_type (with_arrays types component) (array_type component)
put-array types component = fold-append with_type types (arrays_in component) (array_type component ∷ [])

-- ---- each once

-- one type more
with_type-distinct : (types : List PlainTy) (t : PlainTy) → IsDistinct same_type types → IsDistinct same_type (with_type types t)
with_type-distinct types t h = by (list_any (same_type t) types) refl
  where
    by : (b : Bool) → list_any (same_type t) types ≡ b → IsDistinct same_type (if b then types else types ++ t ∷ [])
    by true e = h
    by false e = IsDistinct-push (decided same_type same_type-Decides) types t h e

-- several types more
all-distinct : (types ts : List PlainTy) → IsDistinct same_type types → IsDistinct same_type (fold with_type types ts)
all-distinct types [] h = h
all-distinct types (t ∷ ts) h = all-distinct (with_type types t) ts (with_type-distinct types t h)

-- the array types of several types more
arrays-distinct : (types ts : List PlainTy) → IsDistinct same_type types → IsDistinct same_type (fold with_arrays types ts)
arrays-distinct types [] h = h
arrays-distinct types (t ∷ ts) h = arrays-distinct (with_arrays types t) ts (all-distinct types (arrays_in t) h)

-- what passes a test of distinct elements is distinct
filter-distinct : {A : Type 0} (e : A → A → Bool) (p : A → Bool) (xs : List A) → IsDistinct e xs → IsDistinct e (filter p xs)
filter-distinct e p [] h = h
filter-distinct {A} e p (x ∷ xs) h = by (p x) (filter-distinct e p xs (IsDistinct-tail e x xs h))
  where
    by : (b : Bool) → IsDistinct e (filter p xs) → IsDistinct e (cond b (x ∷ filter p xs) (filter p xs))
    by true rest = IsDistinct-cons e x (filter p xs) (each-kept (λ y. e x y ≡ false) p xs (IsDistinct-head e x xs h)) rest
    by false rest = rest

-- no array type has two rows
pub array_types-distinct : (cs : Classes) → IsDistinct same_type (array_types cs)
unfolding IsDistinct
array_types-distinct cs = filter-distinct same_type (element_loads cs) (fold with_arrays [] (mentioned cs ++ arguments_type ∷ [])) (arrays-distinct [] (mentioned cs ++ arguments_type ∷ []) tt)

-- an answer that has them has each once
pub answers-distinct : (cs : Classes) (r : Result (List Ty) AllocError) → IfOk r (λ ts. types_of ts ≡ array_types cs) → IfOk r (λ ts. IsDistinct same_type (types_of ts))
answers-distinct cs (Ok ts) h = subst (IsDistinct same_type) (sym h) (array_types-distinct cs)
answers-distinct cs (Err e) h = tt

-- ---- distinct types are found in a set as they stand

-- what holds of each holds of one in the middle
at-place : {A : Type 0} (P : A → Type 0) (xs : List A) (y : A) (ys : List A) → AllByRecursion P (xs ++ y ∷ ys) → P y
at-place P [] y ys h = h.0
at-place P (x ∷ xs) y ys h = at-place P xs y ys h.1

-- types that differ differ either way round
other-way : (a b : PlainTy) → same_type a b ≡ false → same_type b a ≡ false
other-way a b h = by (same_type b a) refl
  where
    by : (d : Bool) → same_type b a ≡ d → same_type b a ≡ false
    by false e = e
    by true e = absurd (true≢false (sym ((same_type-Decides a b).1 (sym ((same_type-Decides b a).0 e))) ∙ h))

-- what stands behind in a list of distinct types stands nowhere before
absent : (xs : List PlainTy) (y : PlainTy) (ys : List PlainTy) → IsDistinct same_type (xs ++ y ∷ ys) → list_any (same_type y) xs ≡ false
absent [] y ys h = refl
absent (x ∷ xs) y ys h =
    let here_it : same_type y x ≡ false = other-way x y (at-place (λ z. same_type x z ≡ false) xs y ys (IsDistinct-head same_type x (xs ++ y ∷ ys) h)) in
    ap (λ b. b || list_any (same_type y) xs) here_it ∙ absent xs y ys (IsDistinct-tail same_type x (xs ++ y ∷ ys) h)

-- distinct types behind distinct ones go behind them
pub distinct-stay : (found ts : List PlainTy) → IsDistinct same_type (found ++ ts) → fold with_type found ts ≡ found ++ ts
distinct-stay found [] h = sym (append-nil found)
distinct-stay found (t ∷ ts) h =
    ap (λ b. fold with_type (if b then found else found ++ t ∷ []) ts) (absent found t ts h)
    ∙ (distinct-stay (found ++ t ∷ []) ts (subst (IsDistinct same_type) (sym (append_assoc found (t ∷ []) ts)) h) ∙ append_assoc found (t ∷ []) ts)

-- distinct types alone make a set in their order
pub all-stay : (ts : List PlainTy) → IsDistinct same_type ts → fold with_type [] ts ≡ ts
all-stay ts h = distinct-stay [] ts h
