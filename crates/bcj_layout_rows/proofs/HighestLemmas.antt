-- Interfaces of selectors, and the highest selector that a class implements.
use Rattle.std.proofs.Common.{◌≡◌, refl, ap, sym, subst, ◌∙◌, ◌<◌, ◌≤◌, ◌+◌, ℕ, zero, suc, Bool, true, false, List, [], ◌∷◌, ◌++◌, map, take, length, get_or, slice_get, Option, Some, None, Result, Ok, Err, is_ok, arith, add-zero, add-suc, if◌then◌else◌}
use Rattle.std.specs.Option.{option_map, option_map_or}
use Rattle.std.specs.List.{fold, list_any, AllByRecursion}
use Rattle.std.proofs.lemmas.List.{take_more, length-take-le}
use Rattle.bcj_hier_rules.specs.declared.link_error.LinkError.{LinkError}
use Rattle.bcj_hier_rules.specs.Shapes.{Named, Mixture, Reference}
use Rattle.bcj_hier_rules.specs.Loading.{load_error, implements}
use Rattle.bcj_hier_rules.specs.Resolution.{FoundMethod, resolved_interface}
use Rattle.bcj_hier_soundness.proofs.Resolving.{interface_methods_are_members}
use Rattle.bcj_layout_rules.specs.Rows.{Classes, mixture_of, same_reference, resolves, with_selector, with_class, selectors, interface_reference, highest_from}
use Rattle.bcj_layout_rows.specs.Found.{interface_at}
use Rattle.bcj_layout_rows.proofs.ListLemmas.{each-push}

-- ---- the interfaces of selectors load

-- the interface of each loads
abbrev loads-all : Mixture → List Reference → Type 0
loads-all m = AllByRecursion (λ r. load_error m r.class ≡ None)

-- the type of a reference that resolves loads
resolved-loads : (m : Mixture) (from : Named) (r : Reference) → resolves m from r ≡ true → load_error m r.class ≡ None
resolved-loads m from r h = by (resolved_interface m from r) refl
  where
    by : (x : Result FoundMethod LinkError) → resolved_interface m from r ≡ x → load_error m r.class ≡ None
    by (Ok f) e = (interface_methods_are_members m from r f e).0
    by (Err e) w = let wrong : false ≡ true = sym (ap is_ok w) ∙ h in cc

-- one selector more
selector-loads : (m : Mixture) (from : Named) (rs : List Reference) (r : Reference) → loads-all m rs → loads-all m (with_selector m from rs r)
selector-loads m from rs r h = by (resolves m from r) (list_any (same_reference r) rs) refl
  where
    by : (b d : Bool) → resolves m from r ≡ b → loads-all m (if b then (if d then rs else rs ++ r ∷ []) else rs)
    by true true e = h
    by true false e = each-push (λ r. load_error m r.class ≡ None) rs r h (resolved-loads m from r e)
    by false d e = h

-- those of one class more
class-loads : (m : Mixture) (from : Named) (rs es : List Reference) → loads-all m rs → loads-all m (fold (with_selector m from) rs es)
class-loads m from rs [] h = h
class-loads m from rs (e ∷ es) h = class-loads m from (with_selector m from rs e) es (selector-loads m from rs e h)

-- those of several classes more
classes-load : (m : Mixture) (rs : List Reference) (cs : Classes) → loads-all m rs → loads-all m (fold (with_class m) rs cs)
classes-load m rs [] h = h
classes-load m rs (c ∷ cs) h = classes-load m (with_class m rs c) cs (class-loads m c.head.name rs (map interface_reference c.itable) h)

-- the one at a place
at-all : (m : Mixture) (rs : List Reference) (k : ℕ) → loads-all m rs → k < length rs → load_error m (interface_at rs k) ≡ None
at-all m [] k h inside = absurd (omega arith)
at-all m (r ∷ rs) zero h inside = h.0
at-all m (r ∷ rs) (suc k) h inside = at-all m rs k h.1 (omega arith)

-- the interface of each selector loads
pub interface-loads : (cs : Classes) (rs : List Reference) (k : ℕ) → rs ≡ selectors cs → k < length rs → load_error (mixture_of cs) (interface_at rs k) ≡ None
interface-loads cs rs k e inside = at-all (mixture_of cs) rs k (subst (loads-all (mixture_of cs)) (sym e) (classes-load (mixture_of cs) [] cs tt)) inside

-- ---- from the last selector down

-- what a selector makes of the highest behind it
abbrev over : Bool → ℕ → ℕ → ℕ
over here k n = elim n [ zero ↦ if here then k else 0 | suc n ↦ suc n ]

-- where the interface of the last is implemented, it is the highest
last-one : (m : Mixture) (c : Named) (k : ℕ) (front : List Reference) (r : Reference) → implements m c r.class ≡ true → highest_from m c k (front ++ r ∷ []) ≡ k + length front
last-one m c k [] r it = ap (λ b. if b then k else 0) it ∙ sym (add-zero k)
last-one m c k (x ∷ front) r it =
    ap (over (implements m c x.class) k) (last-one m c (suc k) front r it ∙ more)
    ∙ sym (add-suc k (length front))
  where
    more : suc k + length front ≡ suc (k + length front)
    more = omega arith

-- and where it is not, the last makes no difference
not-last : (m : Mixture) (c : Named) (k : ℕ) (front : List Reference) (r : Reference) → implements m c r.class ≡ false → highest_from m c k (front ++ r ∷ []) ≡ highest_from m c k front
not-last m c k [] r it = ap (λ b. if b then k else 0) it
not-last m c k (x ∷ front) r it = ap (over (implements m c x.class) k) (not-last m c (suc k) front r it)

-- the interface at a place is that of the reference there
interface-is : (rs : List Reference) (k : ℕ) (d : Reference) → k < length rs → interface_at rs k ≡ (get_or rs k d).class
interface-is [] k d h = absurd (omega arith)
interface-is (r ∷ rs) zero d h = refl
interface-is (r ∷ rs) (suc k) d h = interface-is rs k d (omega arith)

-- what stands at no place
abbrev no_reference : Reference
no_reference = record { class = []; name = []; desc = [] }

-- the last of the first n is the highest where its interface is implemented
pub highest-here : (m : Mixture) (c : Named) (rs : List Reference) (n k : ℕ) → n ≡ k + 1 → k < length rs → implements m c (interface_at rs k) ≡ true → highest_from m c 1 (take n rs) ≡ n
highest-here m c rs n k e inside it =
    let least : k ≤ length rs = omega arith in
    let count : 1 + length (take k rs) ≡ n = omega (arith, length-take-le k rs least, e) in
    ap (λ j. highest_from m c 1 (take j rs)) e
    ∙ (ap (highest_from m c 1) (take_more rs k no_reference inside)
    ∙ (last-one m c 1 (take k rs) (get_or rs k no_reference) (ap (implements m c) (sym (interface-is rs k no_reference inside)) ∙ it) ∙ count))

-- and where it isn't, those before it decide
pub highest-before : (m : Mixture) (c : Named) (rs : List Reference) (n k : ℕ) → n ≡ k + 1 → k < length rs → implements m c (interface_at rs k) ≡ false → highest_from m c 1 (take n rs) ≡ highest_from m c 1 (take k rs)
highest-before m c rs n k e inside it =
    ap (λ j. highest_from m c 1 (take j rs)) e
    ∙ (ap (highest_from m c 1) (take_more rs k no_reference inside)
    ∙ not-last m c 1 (take k rs) (get_or rs k no_reference) (ap (implements m c) (sym (interface-is rs k no_reference inside)) ∙ it))

-- ---- the interface of a selector, by its name and by its number

-- the name that is read is that of the interface
pub interface-named : (rs : List Reference) (k : ℕ) (name : Named) → Some name ≡ option_map (λ r. r.class) (slice_get rs k) → interface_at rs k ≡ name
interface-named rs k name h = by (slice_get rs k) h
  where
    by : (o : Option Reference) → Some name ≡ option_map (λ r. r.class) o → option_map_or (λ r. r.class) o [] ≡ name
    by (Some r) e = cc
    by None e = cc

-- a name is read at each place
pub interface-there : (rs : List Reference) (k : ℕ) → None ≡ option_map (λ r. r.class) (slice_get rs k) → k < length rs → ⊥
interface-there [] k h inside = omega arith
interface-there (r ∷ rs) zero h inside = cc
interface-there (r ∷ rs) (suc k) h inside = interface-there rs k h (omega arith)
