-- Entries by what was resolved, and the rows of types.
use Rattle.std.proofs.Common.{◌≡◌, ◌∙◌, ◌+◌, ◌<◌, sym, ap, subst, refl, ℕ, length, map, List, [], ◌∷◌, Option, Some, None, Result, Ok, Err, Bool, true, false, position, slice_get}
use Rattle.std.specs.Option.{option_map, option_map_or, option_or}
use Rattle.std.specs.List.{AllByRecursion}
use Rattle.std.proofs.lemmas.List.{length-map}
use Rattle.std.proofs.lemmas.Option.{slice_get-map, slice_get_within}
use Rattle.bcj_symbolic_trees.specs.Types.{PlainTy, int_type, bool_type, void_type, class_type, array_type}
use Rattle.bcj_symbolic_trees.specs.Same.{same_type}
use Rattle.bcj_tables_rules.specs.declared.records.ClassRecord.{ClassRecord}
use Rattle.bcj_hier_rules.specs.declared.class_id.ClassId.{ClassId}
use Rattle.bcj_hier_rules.specs.declared.link_error.LinkError.{LinkError}
use Rattle.bcj_hier_rules.specs.Shapes.{Named, Mixture}
use Rattle.bcj_hier_rules.specs.Heads.{IsIn, name_of}
use Rattle.bcj_hier_rules.specs.Resolution.{element_error, type_error}
use Rattle.bcj_hier_soundness.proofs.Loads.{or_none}
use Rattle.bcj_layout_rules.specs.Rows.{Classes, loaded, array_types, row_number}
use Rattle.bcj_layout_rules.specs.Places.{row_at}
use Rattle.bcj_layout_rules.specs.Entries.{mapped, row_of}
use Rattle.bcj_layout_resolution.specs.Places.{heads_in}
use Rattle.bcj_layout_rows.proofs.ListLemmas.{position-append, position-none}
use Rattle.bcj_layout_entries.specs.declared.entries.Entry.{Entry}
use Rattle.bcj_layout_entries.specs.Classes.{class_of_type}
use Rattle.bcj_layout_entries.specs.Listed.{IsEntry}

-- ---- answers

-- the entry of what can't be resolved
pub refused : {A : Type 0} (cs : Classes) (f : A → ℕ) (g : Result A LinkError → Option Named) (r : Result A LinkError) (error : LinkError) (e : Entry) → g (Err error) ≡ None → r ≡ Err error
    → IsEntry cs (Err error) None e → IsEntry cs (mapped f r) (g r) e
refused cs f g r error e none is h = record { is_word = h.is_word ∙ sym (ap (mapped f) is); is_class = h.is_class ∙ sym (ap g is ∙ none); among = h.among }

-- the name of a number is that of its record
pub name-there : (cs : Classes) (c : ClassId) (r : ClassRecord) → slice_get cs c.0 ≡ Some r → name_of (heads_in cs) c ≡ r.head.name
name-there cs c r e = ap (λ o. option_map_or (λ h. h.name) o []) (slice_get-map (λ r. r.head) cs c.0 ∙ ap (option_map (λ r. r.head)) e)

-- and the number is one of these
pub is-there : (cs : Classes) (c : ClassId) (r : ClassRecord) → slice_get cs c.0 ≡ Some r → IsIn (heads_in cs) c
is-there cs c r e =
    let inside : c.0 < length cs = slice_get_within cs c.0 r e in
    let P : ℕ → Type 0 = λ n. c.0 < n in
    subst P (sym (length-map cs (λ r. r.head))) inside

-- ---- types

-- an array type, or a type without rows, is none of the types that load
apart : (t : PlainTy) (names : List Named) → class_of_type t ≡ None → AllByRecursion (λ u. same_type t u ≡ false) (map class_type names)
apart t [] h = tt
apart int_type (n ∷ ns) h = (refl, apart int_type ns h)
apart bool_type (n ∷ ns) h = (refl, apart bool_type ns h)
apart void_type (n ∷ ns) h = (refl, apart void_type ns h)
apart (class_type c) (n ∷ ns) h = cc
apart (array_type c) (n ∷ ns) h = (refl, apart (array_type c) ns h)

-- what is asked of a place is asked of what is made of it
fused : (g : ℕ → ℕ) (o : Option ℕ) → option_map_or (λ n. n) (option_map g o) 0 ≡ option_map_or g o 0
fused g None = refl
fused g (Some k) = refl

-- so its row stands behind those
pub behind : (cs : Classes) (t : PlainTy) → class_of_type t ≡ None
    → option_map_or (λ n. n) (row_number cs t) 0 ≡ option_map_or (λ k. length (loaded cs) + k) (position (same_type t) (array_types cs)) 0
behind cs t h =
    let place : Option ℕ = position (same_type t) (array_types cs) in
    let whole : row_number cs t ≡ option_map (λ k. length (loaded cs) + k) place =
    position-append (same_type t) (map class_type (loaded cs)) (array_types cs)
    ∙ (ap (λ o. option_or o (option_map (λ k. length (map class_type (loaded cs)) + k) place)) (position-none (same_type t) (map class_type (loaded cs)) (apart t (loaded cs) h))
    ∙ ap (λ n. option_map (λ k. n + k) place) (length-map (loaded cs) class_type)) in
    ap (λ o. option_map_or (λ n. n) o 0) whole ∙ fused (λ k. length (loaded cs) + k) place

-- a type of a class is told by its name
pub class-type : (t : PlainTy) (n : Named) → class_of_type t ≡ Some n → t ≡ class_type n
class-type int_type n h = cc
class-type bool_type n h = cc
class-type void_type n h = cc
class-type (array_type c) n h = cc
class-type (class_type c) n h = ap (λ (o : Option Named). class_type (option_map_or (λ m. m) o c)) h

-- the elements of a type that may be used, or be made an instance of, load
pub elements-load : (m : Mixture) (t : PlainTy) (is_new : Bool) → type_error m t is_new ≡ None → element_error m t ≡ None
elements-load m t false h = h
elements-load m int_type true h = refl
elements-load m bool_type true h = refl
elements-load m void_type true h = refl
elements-load m (array_type c) true h = h
elements-load m (class_type c) true h = (or_none _ _ h).0

-- the entry of a type that is no class, by the number of its row
pub plain-row : (cs : Classes) (main : Named) (t : PlainTy) (n : ℕ) (e : Entry) → n ≡ option_map_or (λ n. n) (row_number cs t) 0 → class_of_type t ≡ None → IsEntry cs (Ok (row_at cs main n)) None e
    → IsEntry cs (Ok (row_of cs main t)) (class_of_type t) e
plain-row cs main t n e number none h = record { is_word = h.is_word ∙ ap (λ k. Ok (row_at cs main k)) number; is_class = h.is_class ∙ sym none; among = h.among }

-- and that of a class
pub class-row : (cs : Classes) (main : Named) (t : PlainTy) (name : Named) (e : Entry) → class_of_type t ≡ Some name → IsEntry cs (Ok (row_of cs main (class_type name))) (Some name) e
    → IsEntry cs (Ok (row_of cs main t)) (class_of_type t) e
class-row cs main t name e h is = record { is_word = is.is_word ∙ ap (λ u. Ok (row_of cs main u)) (sym (class-type t name h)); is_class = is.is_class ∙ sym h; among = is.among }

-- the row of a class by its number
pub row-named : (cs : Classes) (rows : List (Option ℕ)) (c : ClassId) (d : ClassRecord) → rows ≡ map (λ r. row_number cs (class_type r.head.name)) cs → slice_get cs c.0 ≡ Some d
    → slice_get rows c.0 ≡ Some (row_number cs (class_type (name_of (heads_in cs) c)))
row-named cs rows c d is e =
    ap (λ l. slice_get l c.0) is
    ∙ (slice_get-map (λ r. row_number cs (class_type r.head.name)) cs c.0
    ∙ (ap (option_map (λ r. row_number cs (class_type r.head.name))) e ∙ ap (λ n. Some (row_number cs (class_type n))) (sym (name-there cs c d e))))
