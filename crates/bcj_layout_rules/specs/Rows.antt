-- The rows of an image, one for each type that an object can have: first the types that load, then arrays. And the selectors by which methods of
-- interfaces are called.
use Prim.Native.Char.{code}
use Rattle.std.specs.Prelude.{ℕ, zero, suc, Bool, ◌&&◌, List, [], ◌∷◌, ◌++◌, map, is_none, is_ok, Option, None, Some, if◌then◌else◌}
use Rattle.std.specs.List.{fold, filter, flat_map, list_any, position}
use Rattle.std.specs.Str.{bytes_eq}
use Rattle.bcj_symbolic_trees.specs.Types.{PlainTy, class_type, array_type}
use Rattle.bcj_symbolic_trees.specs.Same.{same_type}
use Rattle.bcj_tables_rules.specs.declared.records.IEntry.{IEntry}
use Rattle.bcj_tables_rules.specs.declared.records.ClassRecord.{ClassRecord}
use Rattle.bcj_hier_rules.specs.Shapes.{Named, Mixture, record_shape, type_of_text, Reference}
use Rattle.bcj_hier_rules.specs.Loading.{implements}
use Rattle.bcj_hier_rules.specs.Trees.{loads}
use Rattle.bcj_hier_rules.specs.Resolution.{element_error, resolved_interface}

-- the records of the boot unit and then of the objects, in order
abbrev pub Classes : Type 0
Classes = List ClassRecord

abbrev pub mixture_of : Classes → Mixture
mixture_of cs = map record_shape cs

-- ---- arrays

-- the array types of a type, each behind its component
abbrev pub arrays_in : PlainTy → List PlainTy
arrays_in (array_type component) = arrays_in component ++ array_type component ∷ []
arrays_in _ = []

abbrev pub with_type : List PlainTy → PlainTy → List PlainTy
with_type types t = if list_any (same_type t) types then types else types ++ t ∷ []

abbrev pub with_arrays : List PlainTy → PlainTy → List PlainTy
with_arrays types t = fold with_type types (arrays_in t)

-- the types in the class tables, in order
abbrev pub mentioned : Classes → List PlainTy
mentioned cs = flat_map (λ c. map (λ e. type_of_text e.ty) c.ctable) cs

-- the type of what `main` is given
abbrev pub arguments_type : PlainTy
arguments_type = array_type (class_type (code "S" ∷ code "t" ∷ code "r" ∷ code "i" ∷ code "n" ∷ code "g" ∷ []))

abbrev pub element_loads : Classes → PlainTy → Bool
element_loads cs t = is_none (element_error (mixture_of cs) t)

-- the array types by first mention whose elements load; that of the arguments of `main` stands last where none mentions it
abbrev pub array_types : Classes → List PlainTy
array_types cs = filter (element_loads cs) (fold with_arrays [] (mentioned cs ++ arguments_type ∷ []))

-- the types that load, in order
abbrev pub loaded : Classes → List Named
loaded cs = filter (loads (mixture_of cs)) (map (λ c. c.head.name) cs)

-- the type of each row; its number is its place here, from 0
abbrev pub row_types : Classes → List PlainTy
row_types cs = map class_type (loaded cs) ++ array_types cs

abbrev pub row_number : Classes → PlainTy → Option ℕ
row_number cs t = position (same_type t) (row_types cs)

-- ---- selectors

abbrev pub interface_reference : IEntry → Reference
interface_reference e = record { class = e.class; name = e.name; desc = e.desc }

abbrev pub same_reference : Reference → Reference → Bool
same_reference a b = bytes_eq a.class b.class && (bytes_eq a.name b.name && bytes_eq a.desc b.desc)

abbrev pub resolves : Mixture → Named → Reference → Bool
resolves m from r = is_ok (resolved_interface m from r)

abbrev pub with_selector : Mixture → Named → List Reference → Reference → List Reference
with_selector m from selectors r = if resolves m from r then (if list_any (same_reference r) selectors then selectors else selectors ++ r ∷ []) else selectors

abbrev pub with_class : Mixture → List Reference → ClassRecord → List Reference
with_class m selectors c = fold (with_selector m c.head.name) selectors (map interface_reference c.itable)

-- the references of the interface tables that resolve, each once; they are numbered from 1
abbrev pub selectors : Classes → List Reference
selectors cs = fold (with_class (mixture_of cs)) [] cs

abbrev pub selector : Classes → Reference → Option ℕ
selector cs r = elim (position (same_reference r) (selectors cs)) [ None ↦ None | Some k ↦ Some (suc k) ]

-- the highest number of a selector whose interface a class implements, where the selectors are numbered from k on; 0 where there is none
abbrev pub highest_from : Mixture → Named → ℕ → List Reference → ℕ
highest_from m class k [] = 0
highest_from m class k (r ∷ rest) = elim (highest_from m class (suc k) rest) [ zero ↦ if implements m class r.class then k else 0 | suc n ↦ suc n ]

abbrev pub highest : Classes → Named → ℕ
highest cs class = highest_from (mixture_of cs) class 1 (selectors cs)
