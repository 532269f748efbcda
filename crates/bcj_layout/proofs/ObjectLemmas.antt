-- How many fields objects have, as it is kept.
use Rattle.std.proofs.Common.{◌≡◌, refl, ap, sym, ◌∙◌, ◌+◌, ◌<◌, ◌≤◌, ℕ, zero, suc, cond, List, [], ◌∷◌, ◌++◌, map, take, length, slice_get, get_or, Option, Some, None, is_none, arith, add-one}
use Rattle.std.specs.Option.{option_map}
use Rattle.std.proofs.lemmas.List.{take_all}
use Rattle.std.proofs.lemmas.Option.{slice_get-map, get_or_from_slice_get}
use Rattle.bcj_symbolic_trees.specs.declared.class_tree.ClassHead.{ClassHead}
use Rattle.bcj_hier_rules.specs.declared.class_id.ClassId.{ClassId}
use Rattle.bcj_hier_rules.specs.declared.link_error.LinkError.{LinkError}
use Rattle.bcj_hier_rules.specs.Shapes.{Named}
use Rattle.bcj_hier_rules.specs.Heads.{of_heads, name_of}
use Rattle.bcj_hier_rules.specs.Loading.{load_error}
use Rattle.bcj_layout_rules.specs.Members.{field_count}
use Rattle.bcj_layout_rules.specs.Rows.{Classes, mixture_of}
use Rattle.bcj_layout_resolution.specs.Places.{heads_in}
use Rattle.bcj_layout_rows.specs.Found.{IsLoading}
use Rattle.bcj_layout_rows.proofs.HierLemmas.{load-same}
use Rattle.bcj_layout.specs.Objects.{kept_fields}
use Rattle.bcj_layout.proofs.RowLemmas.{InRecords, in-records}

-- ---- of one type

-- of one that loads they are kept
of-loading : (cs : Classes) (name : Named) → load_error (mixture_of cs) name ≡ None → kept_fields cs name ≡ field_count (mixture_of cs) name
of-loading cs name h = ap (λ (o : Option LinkError). cond (is_none o) (field_count (mixture_of cs) name) 0) h

-- by the heads
by-heads : (cs : Classes) (heads : List ClassHead) (c : ClassId) → heads ≡ heads_in cs → load_error (of_heads heads) (name_of heads c) ≡ load_error (mixture_of cs) (name_of (heads_in cs) c)
by-heads cs heads c e = ap (λ hs. load_error (of_heads hs) (name_of hs c)) e ∙ load-same cs (name_of (heads_in cs) c)

-- of one that doesn't load nothing is kept
pub no-fields : (cs : Classes) (heads : List ClassHead) (c : ClassId) (error : LinkError) → heads ≡ heads_in cs → Some error ≡ load_error (of_heads heads) (name_of heads c)
    → 0 ≡ kept_fields cs (name_of (heads_in cs) c)
no-fields cs heads c error e h =
    ap (λ (o : Option LinkError). cond (is_none o) (field_count (mixture_of cs) (name_of (heads_in cs) c)) 0) (h ∙ by-heads cs heads c e)

-- one that loads by the heads does
pub loads-too : (cs : Classes) (heads : List ClassHead) (c : ClassId) → heads ≡ heads_in cs → None ≡ load_error (of_heads heads) (name_of heads c) → load_error (mixture_of cs) (name_of (heads_in cs) c) ≡ None
loads-too cs heads c e h = sym (h ∙ by-heads cs heads c e)

-- and its fields are kept
pub some-fields : (cs : Classes) (heads : List ClassHead) (c : ClassId) (n : ℕ) → heads ≡ heads_in cs → None ≡ load_error (of_heads heads) (name_of heads c)
    → n ≡ field_count (mixture_of cs) (name_of (heads_in cs) c) → n ≡ kept_fields cs (name_of (heads_in cs) c)
some-fields cs heads c n e h is = is ∙ sym (of-loading cs (name_of (heads_in cs) c) (loads-too cs heads c e h))

-- ---- of each type

-- one more
pub count-step : (f : Named → ℕ) (cs : Classes) (k : ℕ) (counts next : List ℕ) → counts ≡ map (λ c. f c.head.name) (take k cs) → next ≡ counts ++ f (name_of (heads_in cs) (record { 0 = k })) ∷ [] → k < length cs
    → next ≡ map (λ c. f c.head.name) (take (k + 1) cs)
count-step f cs k counts next before e h = e ∙ (ap (λ l. l ++ f (name_of (heads_in cs) (record { 0 = k })) ∷ []) before ∙ rw add-one (sym (within cs k h)))
  where
    within : (cs : Classes) (k : ℕ) → k < length cs → map (λ c. f c.head.name) (take (suc k) cs) ≡ map (λ c. f c.head.name) (take k cs) ++ f (name_of (heads_in cs) (record { 0 = k })) ∷ []
    within [] k h = absurd (omega arith)
    within (c ∷ cs) zero h = refl
    within (c ∷ cs) (suc k) h = ap (λ l. f c.head.name ∷ l) (within cs k (omega arith))

-- all of them
pub count-all : (f : Named → ℕ) (cs : Classes) (k : ℕ) (counts : List ℕ) → length cs ≤ k → counts ≡ map (λ c. f c.head.name) (take k cs) → counts ≡ map (λ c. f c.head.name) cs
count-all f cs k counts h e = e ∙ ap (map (λ c. f c.head.name)) (take_all k cs h)

-- what is kept of a type that loads
pub count-there : (cs : Classes) (counts : List ℕ) (c : ClassId) (n : ℕ) → counts ≡ map (λ c. kept_fields cs c.head.name) cs → IsLoading cs c → n ≡ get_or counts c.0 0
    → n ≡ field_count (mixture_of cs) (name_of (heads_in cs) c)
count-there cs counts c n are h read =
    let at : InRecords cs c = in-records cs c h.there in
    let there : slice_get counts c.0 ≡ Some (kept_fields cs at.class.head.name) =
    ap (λ l. slice_get l c.0) are ∙ (slice_get-map (λ r. kept_fields cs r.head.name) cs c.0 ∙ ap (option_map (λ r. kept_fields cs r.head.name)) at.there) in
    read
    ∙ (get_or_from_slice_get counts c.0 (kept_fields cs at.class.head.name) 0 there ∙ (ap (kept_fields cs) (sym at.named) ∙ of-loading cs (name_of (heads_in cs) c) h.loads))
