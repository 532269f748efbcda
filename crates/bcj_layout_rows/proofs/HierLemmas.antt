-- What the hierarchy of the heads says of the mixture.
use Rattle.std.proofs.Common.{◌≡◌, refl, ap, sym, ◌∙◌, ◌<◌, ◌+◌, ℕ, zero, suc, Bool, true, false, cond, List, [], ◌∷◌, ◌++◌, map, filter, drop, length, Option, Some, None, Result, Ok, Err, is_none, is_ok, arith, append_assoc, add-one, subst}
use Rattle.std.specs.Option.{option_map, option_map_or}
use Rattle.std.specs.List.{AllByRecursion}
use Rattle.std.proofs.lemmas.List.{length-map, map-append}
use Rattle.bcj_symbolic_trees.specs.declared.class_tree.ClassHead.{ClassHead}
use Rattle.bcj_tables_rules.specs.declared.records.ClassRecord.{ClassRecord}
use Rattle.bcj_hier_rules.specs.declared.class_id.ClassId.{ClassId}
use Rattle.bcj_hier_rules.specs.declared.link_error.LinkError.{LinkError}
use Rattle.bcj_hier_rules.specs.Shapes.{Named, found}
use Rattle.bcj_hier_rules.specs.Heads.{of_heads, heads_of, head_shape, number_of, name_of, error_of}
use Rattle.bcj_hier_rules.specs.Loading.{load_error, implements}
use Rattle.bcj_hier_rules.specs.Trees.{loads}
use Rattle.bcj_hier_soundness.proofs.Heads.{heads_find, heads_load, heads_implement}
use Rattle.bcj_hier_soundness.proofs.Distinct.{numbers_stand, none_is_missed}
use Rattle.bcj_hier_soundness.proofs.Loads.{each_that_loads_is_there}
use Rattle.bcj_layout_rules.specs.Rows.{Classes, mixture_of}
use Rattle.bcj_layout_resolution.specs.Places.{heads_in}
use Rattle.bcj_layout_rows.specs.Found.{IsLoading}
use Rattle.bcj_layout_rows.proofs.ListLemmas.{each-push}

-- the heads of the mixture are those of the records
heads-are : (cs : Classes) → heads_of (mixture_of cs) ≡ heads_in cs
heads-are [] = refl
heads-are (c ∷ cs) = ap (λ hs. c.head ∷ hs) (heads-are cs)

-- what loads by the heads loads in the mixture
pub load-same : (cs : Classes) (name : Named) → load_error (of_heads (heads_in cs)) name ≡ load_error (mixture_of cs) name
load-same cs name = sym (heads_load (mixture_of cs) name ∙ ap (λ hs. load_error (of_heads hs) name) (heads-are cs))

-- and what implements
pub implements-same : (cs : Classes) (c i : Named) → implements (of_heads (heads_in cs)) c i ≡ implements (mixture_of cs) c i
implements-same cs c i = sym (heads_implement (mixture_of cs) c i ∙ ap (λ hs. implements (of_heads hs) c i) (heads-are cs))

-- the type with the number of a name has that name
pub name-found : (cs : Classes) (name : Named) (c : ClassId) → number_of (heads_in cs) name ≡ Some c.0 → name_of (heads_in cs) c ≡ name
name-found cs name c h =
    let at = numbers_stand (heads_in cs) name c.0 h in
    ap (λ o. option_map_or (λ (x : ClassHead). x.name) o []) at.there ∙ at.named

-- a type that loads has a number
pub number-of-loading : (cs : Classes) (name : Named) → load_error (mixture_of cs) name ≡ None → number_of (heads_in cs) name ≡ None → ⊥
number-of-loading cs name loading none =
    let there = each_that_loads_is_there (mixture_of cs) name loading in
    let by_heads : found (of_heads (heads_in cs)) name ≡ Some (head_shape there.0.head) =
    sym (ap (λ hs. found (of_heads hs) name) (heads-are cs)) ∙ (heads_find (mixture_of cs) name ∙ ap (option_map (λ s. head_shape s.head)) there.1) in
    let missed : found (of_heads (heads_in cs)) name ≡ None = (none_is_missed (heads_in cs) name).0 none in
    cc

-- what is found by the name of a type that loads loads by the heads
pub found-loads : (cs : Classes) (heads : List ClassHead) (name : Named) (c : ClassId) → heads ≡ heads_in cs → Some c.0 ≡ number_of heads name → load_error (mixture_of cs) name ≡ None
    → load_error (of_heads heads) (name_of heads c) ≡ None
found-loads cs heads name c e h loading =
    ap (λ hs. load_error (of_heads hs) (name_of hs c)) e
    ∙ (load-same cs (name_of (heads_in cs) c)
    ∙ (ap (load_error (mixture_of cs)) (name-found cs name c (ap (λ hs. number_of hs name) (sym e) ∙ sym h)) ∙ loading))

-- the answer of loading
pub loads-by : (cs : Classes) (heads : List ClassHead) (c : ClassId) (r : Result (Unit {0}) LinkError) → heads ≡ heads_in cs → error_of r ≡ load_error (of_heads heads) (name_of heads c)
    → is_ok r ≡ loads (mixture_of cs) (name_of (heads_in cs) c)
loads-by cs heads c r e h = by r (h ∙ (ap (λ hs. load_error (of_heads hs) (name_of hs c)) e ∙ load-same cs (name_of (heads_in cs) c)))
  where
    by : (r : Result (Unit {0}) LinkError) → error_of r ≡ load_error (mixture_of cs) (name_of (heads_in cs) c) → is_ok r ≡ loads (mixture_of cs) (name_of (heads_in cs) c)
    by (Ok x) h = ap is_none h
    by (Err e) h = ap is_none h

-- ---- the types that load, one more

-- of the names left, the first passes or not
left-step : (p : Named → Bool) (cs : Classes) (k : ℕ) → k < length cs
    → filter p (map (λ c. c.head.name) (drop k cs))
    ≡ cond (p (name_of (heads_in cs) (record { 0 = k }))) (name_of (heads_in cs) (record { 0 = k }) ∷ filter p (map (λ c. c.head.name) (drop (suc k) cs))) (filter p (map (λ c. c.head.name) (drop (suc k) cs)))
left-step p [] k h = absurd (omega arith)
left-step p (c ∷ cs) zero h = refl
left-step p (c ∷ cs) (suc k) h = left-step p cs k (omega arith)

-- one that loads goes behind the others
pub loaded-kept : (p : Named → Bool) (cs : Classes) (k : ℕ) (ids next : List ClassId) → next ≡ ids ++ record { 0 = k } ∷ [] → k < length cs → p (name_of (heads_in cs) (record { 0 = k })) ≡ true
    → map (name_of (heads_in cs)) next ++ filter p (map (λ c. c.head.name) (drop (k + 1) cs)) ≡ map (name_of (heads_in cs)) ids ++ filter p (map (λ c. c.head.name) (drop k cs))
loaded-kept p cs k ids next e inside it =
    let name = name_of (heads_in cs) (record { 0 = k }) in
    let rest = filter p (map (λ (c : ClassRecord). c.head.name) (drop (suc k) cs)) in
    rw add-one
    (ap (λ l. l ++ rest) (ap (map (name_of (heads_in cs))) e ∙ map-append (name_of (heads_in cs)) ids (record { 0 = k } ∷ []))
    ∙ (append_assoc (map (name_of (heads_in cs)) ids) (name ∷ []) rest
    ∙ ap (λ l. map (name_of (heads_in cs)) ids ++ l) (sym (left-step p cs k inside ∙ ap (λ b. cond b (name ∷ rest) rest) it))))

-- one that doesn't is left out
pub loaded-skipped : (p : Named → Bool) (cs : Classes) (k : ℕ) (ids next : List ClassId) → next ≡ ids → k < length cs → p (name_of (heads_in cs) (record { 0 = k })) ≡ false
    → map (name_of (heads_in cs)) next ++ filter p (map (λ c. c.head.name) (drop (k + 1) cs)) ≡ map (name_of (heads_in cs)) ids ++ filter p (map (λ c. c.head.name) (drop k cs))
loaded-skipped p cs k ids next e inside it =
    let name = name_of (heads_in cs) (record { 0 = k }) in
    let rest = filter p (map (λ (c : ClassRecord). c.head.name) (drop (suc k) cs)) in
    rw add-one (ap (λ l. map (name_of (heads_in cs)) l ++ rest) e ∙ ap (λ l. map (name_of (heads_in cs)) ids ++ l) (sym (left-step p cs k inside ∙ ap (λ b. cond b (name ∷ rest) rest) it)))

-- one more of a list of types that load
pub more-loading : (cs : Classes) (k : ℕ) (ids next : List ClassId) → next ≡ ids ++ record { 0 = k } ∷ [] → k < length cs → loads (mixture_of cs) (name_of (heads_in cs) (record { 0 = k })) ≡ true
    → AllByRecursion (IsLoading cs) ids → AllByRecursion (IsLoading cs) next
more-loading cs k ids next e inside it h =
    subst (AllByRecursion (IsLoading cs)) (sym e)
    (each-push (IsLoading cs) ids (record { 0 = k }) h
    (record {
      there = omega (arith, length-map cs (λ c. c.head));
      loads = none-is (load_error (mixture_of cs) (name_of (heads_in cs) (record { 0 = k }))) it;
    }))
  where
    none-is : (o : Option LinkError) → is_none o ≡ true → o ≡ None
    none-is None h = refl
    none-is (Some e) h = cc
