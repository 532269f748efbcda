-- Rows one by one: those of types that load, and behind them those of array types.
use Rattle.std.proofs.Common.{◌≡◌, ◌∙◌, ◌+◌, ◌-◌, ◌<◌, ◌≤◌, ◌++◌, ◌∷◌, [], List, ap, sym, refl, ℕ, zero, suc, Bool, true, false, map, drop, length, Some, slice_get, append_assoc, add-zero, add-one, arith, if◌then◌else◌}
use Rattle.std.specs.List.{fold, list_any, AllByRecursion}
use Rattle.std.specs.Option.{option_map}
use Rattle.std.proofs.lemmas.List.{length-append, length-map}
use Rattle.std.proofs.lemmas.Option.{slice_get-map}
use Rattle.bcj_symbolic_trees.specs.Types.{PlainTy, int_type, bool_type, void_type, class_type, array_type}
use Rattle.bcj_symbolic_trees.specs.Same.{same_type}
use Rattle.bcj_hier_rules.specs.declared.class_id.ClassId.{ClassId}
use Rattle.bcj_hier_rules.specs.Shapes.{Named}
use Rattle.bcj_hier_rules.specs.Heads.{name_of}
use Rattle.bcj_layout_rules.specs.Rows.{Classes, arrays_in, with_type, with_arrays, mentioned, arguments_type, element_loads, array_types, loaded, row_types}
use Rattle.bcj_layout_rules.specs.Places.{dispatch_at}
use Rattle.bcj_layout_resolution.specs.Places.{heads_in}
use Rattle.bcj_layout_members.proofs.Elements.{drop_at_some}
use Rattle.bcj_layout_rows.proofs.ListLemmas.{each-push, each-kept}
use Rattle.bcj_linker_rules.specs.Memory.{type_row, class_row, rows_from}

-- ---- two lists of types

-- the rows of two lists of types
rows_append : (cs : Classes) (main : Named) (n : ℕ) (xs ys : List PlainTy) → rows_from cs main n (xs ++ ys) ≡ rows_from cs main n xs ++ rows_from cs main (n + length xs) ys
rows_append cs main n [] ys = ap (λ k. rows_from cs main k ys) (sym (add-zero n))
rows_append cs main n (x ∷ xs) ys =
    ap (λ ws. type_row cs main n x ++ ws) (rows_append cs main (suc n) xs ys)
    ∙ (sym (append_assoc (type_row cs main n x) (rows_from cs main (suc n) xs) (rows_from cs main (suc n + length xs) ys))
    ∙ ap (λ k. (type_row cs main n x ++ rows_from cs main (suc n) xs) ++ rows_from cs main k ys) more)
  where
    more : suc n + length xs ≡ n + suc (length xs)
    more = omega arith

-- the rows of the types that load and then of the array types
pub all_rows : (cs : Classes) (main : Named)
    → rows_from cs main 0 (row_types cs) ≡ rows_from cs main 0 (map class_type (loaded cs)) ++ rows_from cs main (length (loaded cs)) (array_types cs)
all_rows cs main =
    rows_append cs main 0 (map class_type (loaded cs)) (array_types cs) ∙ ap (λ k. rows_from cs main 0 (map class_type (loaded cs)) ++ rows_from cs main k (array_types cs)) count
  where
    count : 0 + length (map class_type (loaded cs)) ≡ length (loaded cs)
    count = omega (arith, length-map (loaded cs) class_type)

-- how many they are
pub row_count : (cs : Classes) → length (row_types cs) ≡ length (loaded cs) + length (array_types cs)
row_count cs = length-append (map class_type (loaded cs)) (array_types cs) ∙ ap (λ n. n + length (array_types cs)) (length-map (loaded cs) class_type)

-- ---- types that load

-- the name of a type that loads, by its number
pub loaded_name : (cs : Classes) (ids : List ClassId) (k : ℕ) (c : ClassId) → map (name_of (heads_in cs)) ids ≡ loaded cs → slice_get ids k ≡ Some c → slice_get (loaded cs) k ≡ Some (name_of (heads_in cs) c)
loaded_name cs ids k c names there =
    ap (λ (ns : List Named). slice_get ns k) (sym names) ∙ (slice_get-map (name_of (heads_in cs)) ids k ∙ ap (option_map (name_of (heads_in cs))) there)

-- one row more
pub class_step : (cs : Classes) (main : Named) (k : ℕ) (ids : List ClassId) (c : ClassId) (words next whole : List ℕ) → slice_get ids k ≡ Some c → next ≡ words ++ class_row cs main k (name_of (heads_in cs) c)
    → words ++ rows_from cs main k (map class_type (map (name_of (heads_in cs)) (drop k ids))) ≡ whole
    → next ++ rows_from cs main (k + 1) (map class_type (map (name_of (heads_in cs)) (drop (k + 1) ids))) ≡ whole
class_step cs main k ids c words next whole there step before =
    let names : List ClassId → List PlainTy = λ cs'. map class_type (map (name_of (heads_in cs)) cs') in
    let row = class_row cs main k (name_of (heads_in cs) c) in
    let rest = rows_from cs main (suc k) (names (drop (k + 1) ids)) in
    ap (λ n. next ++ rows_from cs main n (names (drop (k + 1) ids))) (add-one k)
    ∙ (ap (λ ws. ws ++ rest) step
    ∙ (append_assoc words row rest ∙ (ap (λ ws. words ++ ws) (sym (ap (λ cs'. rows_from cs main k (names cs')) (drop_at_some ids k c there))) ∙ before)))

-- ---- array types

abbrev IsArray : PlainTy → Type 0
IsArray t = (component : PlainTy) × (t ≡ array_type component)

-- the array types of a type
arrays_only : (t : PlainTy) → AllByRecursion IsArray (arrays_in t)
arrays_only int_type = tt
arrays_only bool_type = tt
arrays_only void_type = tt
arrays_only (class_type name) = tt
arrays_only (array_type component) = each-push IsArray (arrays_in component) (array_type component) (arrays_only component) (component, refl)

-- one type more
type_only : (types : List PlainTy) (t : PlainTy) → AllByRecursion IsArray types → IsArray t → AllByRecursion IsArray (with_type types t)
type_only types t h one = by (list_any (same_type t) types)
  where
    by : (b : Bool) → AllByRecursion IsArray (if b then types else types ++ t ∷ [])
    by true = h
    by false = each-push IsArray types t h one

-- several types more
types_only : (types ts : List PlainTy) → AllByRecursion IsArray types → AllByRecursion IsArray ts → AllByRecursion IsArray (fold with_type types ts)
types_only types [] h others = h
types_only types (t ∷ ts) h others = types_only (with_type types t) ts (type_only types t h others.0) others.1

-- the array types of several types more
all_only : (types ts : List PlainTy) → AllByRecursion IsArray types → AllByRecursion IsArray (fold with_arrays types ts)
all_only types [] h = h
all_only types (t ∷ ts) h = all_only (with_arrays types t) ts (types_only types (arrays_in t) h (arrays_only t))

-- no other type is among the array types
array_types_only : (cs : Classes) → AllByRecursion IsArray (array_types cs)
array_types_only cs =
    each-kept IsArray (element_loads cs) (fold with_arrays [] (mentioned cs ++ arguments_type ∷ [])) (all_only [] (mentioned cs ++ arguments_type ∷ []) tt)

-- the row of an array type
abbrev array_row : Classes → Named → ℕ → List ℕ
array_row cs main n = n ∷ 0 ∷ 0 ∷ dispatch_at cs main ∷ []

-- of the rows that are left, the first
rows_left : (cs : Classes) (main : Named) (ts : List PlainTy) (n k : ℕ) → AllByRecursion IsArray ts → k < length ts
    → rows_from cs main n (drop k ts) ≡ array_row cs main n ++ rows_from cs main (suc n) (drop (suc k) ts)
rows_left cs main [] n k h inside = absurd (omega arith)
rows_left cs main (t ∷ ts) n zero h inside = ap (λ (x : PlainTy). type_row cs main n x ++ rows_from cs main (suc n) ts) h.0.1
rows_left cs main (t ∷ ts) n (suc k) h inside = rows_left cs main ts n k h.1 (omega arith)

-- one row more
pub array_step : (cs : Classes) (main : Named) (n m first dispatch : ℕ) (words next whole : List ℕ) → first ≤ n → n < first + length (array_types cs) → m ≡ n → dispatch ≡ dispatch_at cs main
    → next ≡ words ++ m ∷ 0 ∷ 0 ∷ dispatch ∷ [] → words ++ rows_from cs main n (drop (n - first) (array_types cs)) ≡ whole
    → next ++ rows_from cs main (n + 1) (drop (n + 1 - first) (array_types cs)) ≡ whole
array_step cs main n m first dispatch words next whole least inside number empty step before =
    let within : n - first < length (array_types cs) = omega arith in
    let place : n + 1 - first ≡ suc (n - first) = omega arith in
    let rest = rows_from cs main (suc n) (drop (suc (n - first)) (array_types cs)) in
    let row : next ≡ words ++ array_row cs main n = step ∙ (ap (λ i. words ++ i ∷ 0 ∷ 0 ∷ dispatch ∷ []) number ∙ ap (λ d. words ++ n ∷ 0 ∷ 0 ∷ d ∷ []) empty) in
    ap (λ j. next ++ rows_from cs main (n + 1) (drop j (array_types cs))) place
    ∙ (ap (λ j. next ++ rows_from cs main j (drop (suc (n - first)) (array_types cs))) (add-one n)
    ∙ (ap (λ ws. ws ++ rest) row
    ∙ (append_assoc words (array_row cs main n) rest
    ∙ (ap (λ ws. words ++ ws) (sym (rows_left cs main (array_types cs) n (n - first) (array_types_only cs) within)) ∙ before))))
