-- The record of a class, by its number and by its name.
use Rattle.std.proofs.Common.{◌≡◌, List, [], ◌∷◌, slice_get, Option, Some, None, cond, refl, sym, ◌∙◌, ap, subst, ℕ, suc, IfSome, IfNone, inl, inr, length}
use Rattle.std.proofs.lemmas.Bool.{cases_Bool}
use Rattle.std.proofs.lemmas.Option.{slice_get-map}
use Rattle.std.proofs.lemmas.List.{length-map}
use Rattle.std.specs.Option.{option_map, option_map_or}
use Rattle.std.specs.Str.{bytes_eq}
use Rattle.bcj_symbolic_trees.specs.declared.class_tree.ClassHead.{ClassHead}
use Rattle.bcj_tables_rules.specs.declared.records.ClassRecord.{ClassRecord}
use Rattle.bcj_hier_rules.specs.declared.class_id.ClassId.{ClassId}
use Rattle.bcj_hier_rules.specs.declared.link_error.LinkError.TheVariants as error
use Rattle.bcj_hier_rules.specs.Shapes.{Named, Shape, found, record_shape}
use Rattle.bcj_hier_rules.specs.Heads.{of_heads, heads_of, is_called, number_of, name_of, AreDistinct}
use Rattle.bcj_hier_rules.specs.Loading.{turns, head_error, load_within, load_error, implements}
use Rattle.bcj_hier_soundness.specs.Laws as law
use Rattle.bcj_hier_soundness.proofs.Heads.{heads_find, heads_load, heads_implement}
use Rattle.bcj_hier_soundness.proofs.Distinct.{position_first, names_have_numbers, numbers_stand, none_is_missed}
use Rattle.bcj_layout_rules.specs.Rows.{Classes, mixture_of}
use Rattle.bcj_layout_resolution.specs.Places.{heads_in}
use Rattle.bcj_layout_resolution.specs.Searches.{AreNumbered, IsRecord}

-- the heads of the records are those of their shapes
pub heads_same : (cs : Classes) → heads_of (mixture_of cs) ≡ heads_in cs
heads_same [] = refl
heads_same (c ∷ cs) = ap (λ hs. c.head ∷ hs) (heads_same cs)

-- heads decide which records load
pub loads_same : (cs : Classes) (name : Named) → load_error (mixture_of cs) name ≡ load_error (of_heads (heads_in cs)) name
loads_same cs name = heads_load (mixture_of cs) name ∙ ap (λ hs. load_error (of_heads hs) name) (heads_same cs)

-- a search has one turn more than there are types
pub turns_same : (cs : Classes) → turns (mixture_of cs) ≡ suc (length (heads_in cs))
turns_same cs = ap suc (length-map cs record_shape ∙ sym (length-map cs (λ c. c.head)))

-- the hierarchy's heads say whether a type loads
pub loads_in : (heads : List ClassHead) (cs : Classes) (c : ClassId) → heads ≡ heads_in cs → load_error (of_heads heads) (name_of heads c) ≡ load_error (mixture_of cs) (name_of (heads_in cs) c)
loads_in heads cs c agree = ap (λ (hs : List ClassHead). load_error (of_heads hs) (name_of hs c)) agree ∙ sym (loads_same cs (name_of (heads_in cs) c))

-- and what it implements
pub implements_in : (heads : List ClassHead) (cs : Classes) (c i : ClassId) → heads ≡ heads_in cs
    → implements (of_heads heads) (name_of heads c) (name_of heads i) ≡ implements (mixture_of cs) (name_of (heads_in cs) c) (name_of (heads_in cs) i)
implements_in heads cs c i agree =
    ap (λ (hs : List ClassHead). implements (of_heads hs) (name_of hs c) (name_of hs i)) agree
    ∙ sym (heads_implement (mixture_of cs) (name_of (heads_in cs) c) (name_of (heads_in cs) i) ∙ ap (λ hs. implements (of_heads hs) (name_of (heads_in cs) c) (name_of (heads_in cs) i)) (heads_same cs))

-- ---- the type of a number

-- the type of a number behind the first type
found_behind : (c r : ClassRecord) (cs : Classes) (name : Named) (k : ℕ) (o : Option ℕ)
    → ((j : ℕ) → o ≡ Some j → slice_get cs j ≡ Some r → found (mixture_of cs) name ≡ Some (record_shape r)) → option_map suc o ≡ Some k → slice_get (c ∷ cs) k ≡ Some r
    → found (mixture_of cs) name ≡ Some (record_shape r)
found_behind c r cs name k None again e there = cc
found_behind c r cs name k (Some j) again e there =
    let next : suc j ≡ k = cc in
    let P : ℕ → Type 0 = λ i. slice_get (c ∷ cs) i ≡ Some r in
    again j refl (subst P (sym next) there)

-- the number of a name is that of the record that it finds
pub found_at : (cs : Classes) (name : Named) (k : ℕ) (r : ClassRecord) → number_of (heads_in cs) name ≡ Some k → slice_get cs k ≡ Some r → found (mixture_of cs) name ≡ Some (record_shape r)
found_at [] name k r e there = cc
found_at (c ∷ cs) name k r e there =
    let first : cond (bytes_eq c.head.name name) (Some 0) (option_map suc (number_of (heads_in cs) name)) ≡ Some k = sym (position_first (is_called name) c.head (heads_in cs)) ∙ e in
    elim (cases_Bool (bytes_eq c.head.name name)) [
      | inl it ↦
          let here_it : Some 0 ≡ Some k = ap (λ b. cond b (Some 0) (option_map suc (number_of (heads_in cs) name))) (sym it) ∙ first in
          let zero_it : 0 ≡ k = cc in
          let P : ℕ → Type 0 = λ i. slice_get (c ∷ cs) i ≡ Some r in
          let both : Some c ≡ Some r = subst P (sym zero_it) there in
          let same : c ≡ r = cc in
          ap (λ b. cond b (Some (record_shape c)) (found (mixture_of cs) name)) it ∙ ap (λ x. Some (record_shape x)) same
      | inr other ↦
          let later : option_map suc (number_of (heads_in cs) name) ≡ Some k = ap (λ b. cond b (Some 0) (option_map suc (number_of (heads_in cs) name))) (sym other) ∙ first in
          ap (λ b. cond b (Some (record_shape c)) (found (mixture_of cs) name)) other
          ∙ found_behind c r cs name k (number_of (heads_in cs) name) (λ j ej tj. found_at cs name j r ej tj) later there
    ]

-- where there is no head, there is no type
none_bare : (o : Option Shape) → option_map (λ s. Rattle.bcj_hier_rules.specs.Heads.head_shape s.head) o ≡ None → o ≡ None
none_bare None e = refl
none_bare (Some s) e = cc

-- a name without a number finds no record
pub none_at : (cs : Classes) (name : Named) → number_of (heads_in cs) name ≡ None → found (mixture_of cs) name ≡ None
none_at cs name e =
    none_bare (found (mixture_of cs) name)
    (sym (heads_find (mixture_of cs) name) ∙ (ap (λ hs. found (of_heads hs) name) (heads_same cs) ∙ (none_is_missed (heads_in cs) name).0 e))

-- the record of a number
pub is_record : (heads : List ClassHead) (cs : Classes) (c : ClassId) (r : ClassRecord) → heads ≡ heads_in cs → AreDistinct heads → AreNumbered cs → slice_get cs c.0 ≡ Some r → IsRecord cs c r
is_record heads cs c r agree distinct numbered there =
    let P : List ClassHead → Type 0 = λ hs. AreDistinct hs in
    let head_there : slice_get (heads_in cs) c.0 ≡ Some r.head = slice_get-map (λ (x : ClassRecord). x.head) cs c.0 ∙ ap (option_map (λ (x : ClassRecord). x.head)) there in
    record {
      there = there;
      named = ap (λ o. option_map_or (λ (h : ClassHead). h.name) o []) head_there;
      is_it = found_at cs r.head.name c.0 r (names_have_numbers (heads_in cs) c.0 r.head (subst P agree distinct) head_there) there;
      numbered = numbered c.0 r there;
    }

-- ---- what a name finds

-- the type with the number of a name has the name
numbered_name : (hs : List ClassHead) (name : Named) (c : ClassId) → number_of hs name ≡ Some c.0 → name_of hs c ≡ name
numbered_name hs name c e =
    let s : law.StandsAt hs name c.0 = numbers_stand hs name c.0 e in
    ap (λ o. option_map_or (λ (h : ClassHead). h.name) o []) s.there ∙ s.named

-- the type that a look-up answers has the name
pub find_named : (heads : List ClassHead) (cs : Classes) (name : Named) (o : Option ClassId) → heads ≡ heads_in cs → option_map (λ (c : ClassId). c.0) o ≡ number_of heads name
    → IfSome o (λ c. name_of (heads_in cs) c ≡ name)
find_named heads cs name None agree e = tt
find_named heads cs name (Some c) agree e = numbered_name (heads_in cs) name c (ap (λ hs. number_of hs name) (sym agree) ∙ sym e)

-- where a look-up answers none, there is no such type
pub find_none : (heads : List ClassHead) (cs : Classes) (name : Named) (o : Option ClassId) → heads ≡ heads_in cs → option_map (λ (c : ClassId). c.0) o ≡ number_of heads name
    → IfNone o (found (mixture_of cs) name ≡ None)
find_none heads cs name None agree e = none_at cs name (ap (λ hs. number_of hs name) (sym agree) ∙ sym e)
find_none heads cs name (Some c) agree e = tt

-- a name that finds nothing doesn't load
pub none_loads : (cs : Classes) (name : Named) → found (mixture_of cs) name ≡ None → load_error (mixture_of cs) name ≡ Some error.NoClassDefFound
none_loads cs name e =
    ap (λ o. elim o [ None ↦ Some error.NoClassDefFound | Some s ↦ head_error (mixture_of cs) (load_within (mixture_of cs) (length (mixture_of cs)) (name ∷ [])) s ]) e
