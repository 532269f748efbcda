-- The words of rows: those of types that load have their slots, and those of arrays none.
use Rattle.std.proofs.Common.{◌≡◌, ℕ, List, [], ◌∷◌, ◌++◌, Bool, true, false, map, refl, sym, ◌∙◌, ap, if◌then◌else◌}
use Rattle.std.proofs.lemmas.List.{map-append}
use Rattle.std.specs.List.{fold, list_any, AllByRecursion}
use Rattle.bcj_symbolic_trees.specs.declared.type_tree.Ty.{Ty}
use Rattle.bcj_symbolic_trees.specs.Types.{PlainTy, int_type, bool_type, void_type, class_type, array_type, ty_of, types_of}
use Rattle.bcj_symbolic_trees.specs.Same.{same_type}
use Rattle.bcj_hier_rules.specs.Shapes.{Named}
use Rattle.bcj_layout_rules.specs.Rows.{Classes, arrays_in, with_type, with_arrays, mentioned, arguments_type, element_loads, array_types, row_types, loaded}
use Rattle.bcj_layout_rules.specs.Places.{row_head, row_words}
use Rattle.bcj_layout_rows.proofs.ListLemmas.{each-push, each-kept}
use Rattle.bcj_layout_places.specs.Parts.{class_row}

-- ---- array types

-- a type whose row has no slots
abbrev IsBare : Classes → Named → PlainTy → Type 0
IsBare cs main t = row_words cs main t ≡ row_head

-- the array types of a type
arrays-bare : (cs : Classes) (main : Named) (t : PlainTy) → AllByRecursion (IsBare cs main) (arrays_in t)
arrays-bare cs main int_type = tt
arrays-bare cs main bool_type = tt
arrays-bare cs main void_type = tt
arrays-bare cs main (class_type name) = tt
arrays-bare cs main (array_type component) = each-push (IsBare cs main) (arrays_in component) (array_type component) (arrays-bare cs main component) refl

-- one type more
type-bare : (cs : Classes) (main : Named) (types : List PlainTy) (t : PlainTy) → AllByRecursion (IsBare cs main) types → IsBare cs main t → AllByRecursion (IsBare cs main) (with_type types t)
type-bare cs main types t all it = by (list_any (same_type t) types)
  where
    by : (b : Bool) → AllByRecursion (IsBare cs main) (if b then types else types ++ t ∷ [])
    by true = all
    by false = each-push (IsBare cs main) types t all it

-- several types more
types-bare : (cs : Classes) (main : Named) (types ts : List PlainTy) → AllByRecursion (IsBare cs main) types → AllByRecursion (IsBare cs main) ts → AllByRecursion (IsBare cs main) (fold with_type types ts)
types-bare cs main types [] all more = all
types-bare cs main types (t ∷ ts) all more = types-bare cs main (with_type types t) ts (type-bare cs main types t all more.0) more.1

-- the array types of several types more
all-bare : (cs : Classes) (main : Named) (types ts : List PlainTy) → AllByRecursion (IsBare cs main) types → AllByRecursion (IsBare cs main) (fold with_arrays types ts)
all-bare cs main types [] all = all
all-bare cs main types (t ∷ ts) all = all-bare cs main (with_arrays types t) ts (types-bare cs main types (arrays_in t) all (arrays-bare cs main t))

-- those that have rows
rows-bare : (cs : Classes) (main : Named) → AllByRecursion (IsBare cs main) (array_types cs)
rows-bare cs main = each-kept (IsBare cs main) (element_loads cs) (fold with_arrays [] (mentioned cs ++ arguments_type ∷ [])) (all-bare cs main [] (mentioned cs ++ arguments_type ∷ []) tt)

-- ---- words of rows

-- of types whose rows have no slots
bare-words : (cs : Classes) (main : Named) (ts : List PlainTy) → AllByRecursion (IsBare cs main) ts → map (row_words cs main) ts ≡ map (λ _. row_head) ts
bare-words cs main [] all = refl
bare-words cs main (t ∷ ts) all = λ i. all.0 i ∷ bare-words cs main ts all.1 i

-- of classes and interfaces
class-words : (cs : Classes) (main : Named) (names : List Named) → map (row_words cs main) (map class_type names) ≡ map (class_row cs) names
class-words cs main [] = refl
class-words cs main (name ∷ names) = ap (λ l. class_row cs name ∷ l) (class-words cs main names)

-- as many of what a function makes
as-many : {A B : Type 0} (f : A → B) (n : ℕ) (xs : List A) → map (λ _. n) (map f xs) ≡ map (λ _. n) xs
as-many f n [] = refl
as-many f n (x ∷ xs) = ap (λ l. n ∷ l) (as-many f n xs)

-- of all rows
pub all-words : (cs : Classes) (main : Named) (names : List Named) (arrays : List Ty) → names ≡ loaded cs → types_of arrays ≡ array_types cs
    → map (class_row cs) names ++ map (λ _. row_head) arrays ≡ map (row_words cs main) (row_types cs)
all-words cs main names arrays named same =
    let behind : map (row_words cs main) (array_types cs) ≡ map (λ _. row_head) arrays =
    bare-words cs main (array_types cs) (rows-bare cs main) ∙ (ap (map (λ _. row_head)) (sym same) ∙ as-many ty_of row_head arrays) in
    ap (λ l. map (class_row cs) l ++ map (λ _. row_head) arrays) named
    ∙ sym (map-append (row_words cs main) (map class_type (loaded cs)) (array_types cs) ∙ λ i. class-words cs main (loaded cs) i ++ behind i)
