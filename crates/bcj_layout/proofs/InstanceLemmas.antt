-- Instances by the heads of the classes, and what types array rows have.
use Rattle.std.proofs.Common.{◌≡◌, refl, ap, sym, ◌∙◌, ◌<◌, arith, ℕ, Bool, true, false, cond, List, [], ◌∷◌, ◌++◌, filter, length, get_or, slice_get, Option, Some, None, is_none, if◌then◌else◌, ◌+◌, position}
use Rattle.std.specs.Option.{option_map, option_map_or}
use Rattle.std.proofs.lemmas.List.{length-map}
use Rattle.std.proofs.lemmas.Option.{slice_get-map, slice_get_read}
use Rattle.std.specs.List.{fold, list_any, AllByRecursion}
use Rattle.bcj_symbolic_trees.specs.Types.{PlainTy, int_type, bool_type, void_type, class_type, array_type, ty_of, types_of}
use Rattle.bcj_symbolic_trees.specs.declared.type_tree.Ty.{Ty}
use Rattle.bcj_symbolic_trees.specs.Same.{same_type}
use Rattle.bcj_symbolic_trees.proofs.SameLemmas.{same_type-Decides}
use Rattle.bcj_symbolic_trees.specs.declared.class_tree.ClassHead.{ClassHead}
use Rattle.bcj_hier_rules.specs.declared.link_error.LinkError.{LinkError}
use Rattle.bcj_hier_rules.specs.declared.class_id.ClassId.{ClassId}
use Rattle.bcj_hier_rules.specs.Shapes.{Named, Mixture, found}
use Rattle.bcj_hier_rules.specs.Heads.{of_heads, name_of, number_of}
use Rattle.bcj_hier_rules.specs.Loading.{load_error}
use Rattle.bcj_hier_rules.specs.Resolution.{element_error}
use Rattle.bcj_hier_rules.specs.Linking.{is_object, instance}
use Rattle.bcj_hier_soundness.proofs.Heads.{heads_load_elements, heads_tell_instances}
use Rattle.bcj_hier_soundness.proofs.Distinct.{numbers_stand, none_is_missed}
use Rattle.bcj_hier_soundness.proofs.Loads.{each_that_loads_is_there}
use Rattle.bcj_layout_members.proofs.Elements.{some_at}
use Rattle.bcj_layout_rules.specs.Rows.{Classes, mixture_of, arrays_in, with_type, with_arrays, mentioned, arguments_type, element_loads, array_types, loaded, row_number}
use Rattle.bcj_layout_rules.specs.Places.{row_at}
use Rattle.bcj_layout_rules.specs.Entries.{row_of}
use Rattle.bcj_layout_resolution.specs.Places.{heads_in}
use Rattle.bcj_layout_rows.specs.Found.{IsLoading}
use Rattle.bcj_layout_rows.proofs.ListLemmas.{each-push, each-kept}
use Rattle.bcj_layout_rows.proofs.HierLemmas.{load-same}
use Rattle.bcj_layout_rows.proofs.ArrayLemmas.{array_types-distinct}
use Rattle.bcj_layout_rows.proofs.RowLemmas.{arrays_behind}
use Rattle.bcj_layout_places.proofs.Interfaces.{heads_same}
use Rattle.bcj_layout.specs.declared.row_id.RowId.{RowId}
use Rattle.bcj_layout.specs.declared.row_id.RowId.TheVariants as row
use Rattle.bcj_layout.specs.RowTypes.{IsRow, type_of_row, number_of_row, array_at, component_of}
use Rattle.bcj_layout.proofs.RowLemmas.{at-place, own-place}

-- ---- by the heads alone

-- what is an instance
pub instance-same : (cs : Classes) (s t : PlainTy) → instance (of_heads (heads_in cs)) s t ≡ instance (mixture_of cs) s t
instance-same cs s t = sym (heads_tell_instances (mixture_of cs) s t ∙ ap (λ hs. instance (of_heads hs) s t) (heads_same cs))

-- and whose elements load
pub elements-same : (cs : Classes) (t : PlainTy) → element_error (of_heads (heads_in cs)) t ≡ element_error (mixture_of cs) t
elements-same cs t = sym (heads_load_elements (mixture_of cs) t ∙ ap (λ hs. element_error (of_heads hs) t) (heads_same cs))

-- ---- array types

-- the array types of a type
arrays-each : (P : PlainTy → Type 0) → ((c : PlainTy) → P (array_type c)) → (t : PlainTy) → AllByRecursion P (arrays_in t)
arrays-each P make int_type = tt
arrays-each P make bool_type = tt
arrays-each P make void_type = tt
arrays-each P make (class_type name) = tt
arrays-each P make (array_type c) = each-push P (arrays_in c) (array_type c) (arrays-each P make c) (make c)

-- one type more
type-each : (P : PlainTy → Type 0) (types : List PlainTy) (t : PlainTy) → AllByRecursion P types → P t → AllByRecursion P (with_type types t)
type-each P types t all it = by (list_any (same_type t) types)
  where
    by : (b : Bool) → AllByRecursion P (if b then types else types ++ t ∷ [])
    by true = all
    by false = each-push P types t all it

-- several types more
types-each : (P : PlainTy → Type 0) (types ts : List PlainTy) → AllByRecursion P types → AllByRecursion P ts → AllByRecursion P (fold with_type types ts)
types-each P types [] all more = all
types-each P types (t ∷ ts) all more = types-each P (with_type types t) ts (type-each P types t all more.0) more.1

-- the array types of several types more
all-each : (P : PlainTy → Type 0) → ((c : PlainTy) → P (array_type c)) → (types ts : List PlainTy) → AllByRecursion P types → AllByRecursion P (fold with_arrays types ts)
all-each P make types [] all = all
all-each P make types (t ∷ ts) all = all-each P make (with_arrays types t) ts (types-each P types (arrays_in t) all (arrays-each P make t))

-- each that is kept passes
each-passes : {A : Type 0} (keep : A → Bool) (xs : List A) → AllByRecursion (λ x. keep x ≡ true) (filter keep xs)
each-passes keep [] = tt
each-passes keep (x ∷ xs) = by (keep x) refl (each-passes keep xs)
  where
    by : (b : Bool) → keep x ≡ b → AllByRecursion (λ y. keep y ≡ true) (filter keep xs) → AllByRecursion (λ y. keep y ≡ true) (cond b (x ∷ filter keep xs) (filter keep xs))
    by true e rest = (e, rest)
    by false e rest = rest

-- an array type
abbrev IsArray : PlainTy → Type 0
IsArray t = t ≡ array_type (component_of t)

-- what is known of the array type with a number
pub record ArrayRow (cs : Classes) (n : ℕ) : Type 0 where
  pub there : slice_get (array_types cs) n ≡ Some (array_at cs n)
  pub is_array : array_at cs n ≡ array_type (component_of (array_at cs n))
  pub loads : element_error (mixture_of cs) (array_at cs n) ≡ None

none-is : (o : Option LinkError) → is_none o ≡ true → o ≡ None
none-is None h = refl
none-is (Some e) h = cc

-- each array row has an array type whose elements load
pub array-row : (cs : Classes) (n : ℕ) → n < length (array_types cs) → ArrayRow cs n
array-row cs n h =
    let some = some_at (array_types cs) n h in
    let is : array_at cs n ≡ some.0 = ap (λ o. option_map_or (λ t. t) o void_type) some.1 in
    let there : slice_get (array_types cs) n ≡ Some (array_at cs n) = some.1 ∙ ap Some (sym is) in
    let found : List PlainTy = fold with_arrays [] (mentioned cs ++ arguments_type ∷ []) in
    record {
      there = there;
      is_array = at-place IsArray (array_types cs) n (array_at cs n)
          (each-kept IsArray (element_loads cs) found (all-each IsArray (λ c. refl) [] (mentioned cs ++ arguments_type ∷ []) tt)) there;
      loads = none-is (element_error (mixture_of cs) (array_at cs n))
          (at-place (λ t. element_loads cs t ≡ true) (array_types cs) n (array_at cs n) (each-passes (element_loads cs) found) there);
    }

-- the component's elements are those of the array type
pub component-loads : (m : Mixture) (t : PlainTy) → element_error m t ≡ None → element_error m (component_of t) ≡ None
component-loads m int_type h = h
component-loads m bool_type h = h
component-loads m void_type h = h
component-loads m (class_type name) h = h
component-loads m (array_type c) h = h

-- of an array, the class above all others alone is a class of which it is an instance
pub array-of-class : (cs : Classes) (t : PlainTy) (name : List ℕ) → t ≡ array_type (component_of t) → is_object (class_type name) ≡ instance (mixture_of cs) t (class_type name)
array-of-class cs t name e = sym (ap (λ s. instance (mixture_of cs) s (class_type name)) e)

-- ---- classes by their names

-- the class with the number of a name has that name
pub called : (heads : List ClassHead) (name : Named) (c : ClassId) → Some c.0 ≡ number_of heads name → name_of heads c ≡ name
called heads name c h =
    let at = numbers_stand heads name c.0 (sym h) in
    ap (λ o. option_map_or (λ (x : ClassHead). x.name) o []) at.there ∙ at.named

-- a name that loads has a number
pub missing : (heads : List ClassHead) (name : Named) → None ≡ number_of heads name → load_error (of_heads heads) name ≡ None → ⊥
missing heads name none h =
    let there = each_that_loads_is_there (of_heads heads) name h in
    let missed : found (of_heads heads) name ≡ None = (none_is_missed heads name).0 (sym none) in
    let wrong : Some there.0 ≡ None = sym there.1 ∙ missed in
    cc

-- and its class no error
pub failing : (heads : List ClassHead) (name : Named) (c : ClassId) (error : LinkError) → Some c.0 ≡ number_of heads name → Some error ≡ load_error (of_heads heads) (name_of heads c)
    → load_error (of_heads heads) name ≡ None → ⊥
failing heads name c error h fails loads =
    let wrong : Some error ≡ None = fails ∙ (ap (load_error (of_heads heads)) (called heads name c h) ∙ loads) in
    cc

-- a type that loads does by the heads
pub loading-by-heads : (cs : Classes) (heads : List ClassHead) (c : ClassId) → heads ≡ heads_in cs → IsLoading cs c → load_error (of_heads heads) (name_of heads c) ≡ None
loading-by-heads cs heads c e h = ap (λ hs. load_error (of_heads hs) (name_of hs c)) e ∙ (load-same cs (name_of (heads_in cs) c) ∙ h.loads)

-- ---- what is kept of array types

-- the array type with a number
pub array-read : (cs : Classes) (arrays : List Ty) (n : ℕ) (t : Ty) → types_of arrays ≡ array_types cs → n < length (array_types cs) → t ≡ get_or arrays n t → ty_of t ≡ array_at cs n
array-read cs arrays n t are h read =
    let within : n < length arrays = omega (arith, h, ap length are, length-map arrays ty_of) in
    let there : slice_get arrays n ≡ Some t = slice_get_read arrays (length arrays) n t refl within read in
    let listed : slice_get (array_types cs) n ≡ Some (ty_of t) = sym (ap (λ l. slice_get l n) are) ∙ (slice_get-map ty_of arrays n ∙ ap (option_map ty_of) there) in
    sym (ap (λ o. option_map_or (λ u. u) o void_type) listed)

-- its elements load
pub array-loads : (cs : Classes) (arrays : List Ty) (n : ℕ) (t : Ty) → types_of arrays ≡ array_types cs → n < length (array_types cs) → t ≡ get_or arrays n t
    → element_error (of_heads (heads_in cs)) (ty_of t) ≡ None
array-loads cs arrays n t are h read = elements-same cs (ty_of t) ∙ (ap (element_error (mixture_of cs)) (array-read cs arrays n t are h read) ∙ (array-row cs n h).loads)

-- ---- rows by their types

-- the number of the row of an array type
array-number : (cs : Classes) (n : ℕ) → n < length (array_types cs) → row_number cs (array_at cs n) ≡ Some (length (loaded cs) + n)
array-number cs n h =
    let r : ArrayRow cs n = array-row cs n h in
    let component : PlainTy = component_of (array_at cs n) in
    let place : position (same_type (array_type component)) (array_types cs) ≡ Some n =
    ap (λ t. position (same_type t) (array_types cs)) (sym r.is_array) ∙ own-place same_type same_type-Decides (array_types cs) n (array_at cs n) (array_types-distinct cs) r.there in
    ap (row_number cs) r.is_array ∙ (arrays_behind cs component ∙ ap (option_map (λ k. length (loaded cs) + k)) place)

-- a row begins where that of its type does
pub row-of-type : (cs : Classes) (main : Named) (r : RowId) → IsRow cs r → row_at cs main (number_of_row cs r) ≡ row_of cs main (type_of_row cs r)
row-of-type cs main (row.Class c) h = refl
row-of-type cs main (row.Array n) h = ap (λ (o : Option ℕ). row_at cs main (option_map_or (λ k. k) o 0)) (sym (array-number cs n h))
