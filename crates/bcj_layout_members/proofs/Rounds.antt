-- Rounds of visits: after as many as a search has turns all types that load are done.
use Rattle.std.proofs.Common.{◌≡◌, ◌+◌, ◌≤◌, List, [], ◌∷◌, Option, Some, None, refl, sym, ◌∙◌, ap, ℕ, zero, suc, length, arith, subst, add-one, IfSome}
use Rattle.std.proofs.lemmas.List.{length-map}
use Rattle.std.specs.List.{slice_get}
use Rattle.bcj_tables_rules.specs.declared.records.ClassRecord.{ClassRecord}
use Rattle.bcj_hier_rules.specs.declared.link_error.LinkError.{LinkError}
use Rattle.bcj_hier_rules.specs.Shapes.{Named, Shape, Mixture, found, record_shape}
use Rattle.bcj_symbolic_trees.specs.declared.class_tree.ClassHead.{ClassHead}
use Rattle.bcj_hier_rules.specs.Heads.{number_of}
use Rattle.bcj_hier_rules.specs.Loading.{turns, interfaces_error, superclass_error, load_within, load_error}
use Rattle.bcj_hier_soundness.proofs.Loads.{Loaded, loaded, loaded_there, superclass_part, loads_sooner}
use Rattle.bcj_layout_rules.specs.Rows.{Classes, mixture_of}
use Rattle.bcj_layout_members.specs.declared.row.Row.{Row}
use Rattle.bcj_layout_members.specs.Places.{heads_in, name_at}
use Rattle.bcj_layout_members.specs.Tables.{IsPrepared, ArePartsDone, AreLinked, Fills, Reached, IsFull}
use Rattle.bcj_layout_members.proofs.Elements.{some_at}
use Rattle.bcj_layout_members.proofs.Parts.{interface_first, interfaces_rest}
use Rattle.bcj_layout_members.proofs.Numbers.{IsNumbered, is_numbered, found_number, name_at_is}
use Rattle.bcj_layout_members.proofs.Types.{own_found}

-- each superinterface of what loads loads
interface_at : (m : Mixture) (f : Named → Option LinkError) (names : List Named) (k : ℕ) (i : Named) → interfaces_error m f names ≡ None → slice_get names k ≡ Some i → f i ≡ None
interface_at m f [] k i h e = cc
interface_at m f (n ∷ names) zero i h e =
    let same : n ≡ i = cc in
    subst (λ x. f x ≡ None) same (interface_first m f n names h).0
interface_at m f (n ∷ names) (suc k) i h e = interface_at m f names k i (interfaces_rest m f n names h) e

-- what loads in turns that were reached is prepared
prepared : (cs : Classes) (rows : List Row) (n : ℕ) (way : List Named) → Reached cs rows n → (name : Named) → load_within (mixture_of cs) n way name ≡ None → IsPrepared cs rows name
prepared cs rows n way reached name h =
    let t : (s : Shape) × (found (mixture_of cs) name ≡ Some s) = loaded_there (mixture_of cs) n way name h in
    let k : (k : ℕ) × (number_of (heads_in cs) name ≡ Some k) = found_number cs name t.0 t.1 in
    let i : IsNumbered cs name k.0 = is_numbered cs name k.0 k.1 in
    record { at = k.0; number = k.1; done = reached k.0 i.class way i.record_of (ap (load_within (mixture_of cs) n way) (name_at_is cs k.0 i.class i.record_of ∙ i.named) ∙ h) }

-- and so is a superclass
prepared_superclass : (cs : Classes) (rows : List Row) (n : ℕ) (way : List Named) → Reached cs rows n → (o : Option Named) → superclass_error (mixture_of cs) (load_within (mixture_of cs) n way) o ≡ None
    → IfSome o (IsPrepared cs rows)
prepared_superclass cs rows n way reached None h = tt
prepared_superclass cs rows n way reached (Some p) h = prepared cs rows n way reached p (superclass_part (mixture_of cs) (load_within (mixture_of cs) n way) (Some p) p refl h).0

-- and so are all parts of a type
parts_done : (cs : Classes) (rows : List Row) (n : ℕ) (way : List Named) → Reached cs rows n → (name : Named) (class : ClassRecord) → Loaded (mixture_of cs) n way name (record_shape class) → ArePartsDone cs rows class
parts_done cs rows n way reached name class l = record {
  superclass = prepared_superclass cs rows n (name ∷ way) reached class.head.superclass l.superclass;
  interfaces =
      λ k i e. prepared cs rows n (name ∷ way) reached i (interface_at (mixture_of cs) (load_within (mixture_of cs) n (name ∷ way)) class.head.interfaces k i l.interfaces e);
}

-- a round reaches what takes one turn more
pub reached_more : (cs : Classes) → AreLinked cs → (before after : List Row) (n : ℕ) → Reached cs before n → ((k : ℕ) → Fills cs before after k) → n ≤ length cs → Reached cs after (n + 1)
reached_more cs linked before after n reached fills few k class way e h =
    let m : Mixture = mixture_of cs in
    let within : load_within m (suc n) way (name_at cs k) ≡ None = ap (λ j. load_within m j way (name_at cs k)) (sym (add-one n)) ∙ h in
    let l : Loaded m n way (name_at cs k) (record_shape class) = loaded m n way (name_at cs k) (record_shape class) (own_found cs linked k class e) within in
    let count : length m ≡ length cs = simp length-map in
    let loads : load_error m (name_at cs k) ≡ None = loads_sooner m (suc n) (turns m) (omega arith) way [] (λ x e. cc) (name_at cs k) within in
    fills k class e loads (parts_done cs before n way reached (name_at cs k) class l)

-- nothing loads in no turns
pub reached_none : (cs : Classes) (rows : List Row) → Reached cs rows 0
reached_none cs rows k class way e h = cc

-- as many rounds as a search has turns reach all
pub reached_all : (cs : Classes) (rows : List Row) (n : ℕ) → Reached cs rows n → length cs + 1 ≤ n → n ≤ length cs + 1 → IsFull cs rows
reached_all cs rows n reached low high k h loads =
    let count : length (mixture_of cs) ≡ length cs = simp length-map in
    let all : turns (mixture_of cs) ≡ n = omega arith in
    let c : (c : ClassRecord) × (slice_get cs k ≡ Some c) = some_at cs k h in
    reached k c.0 [] c.1 (ap (λ j. load_within (mixture_of cs) j [] (name_at cs k)) (sym all) ∙ loads)

-- there are as many heads as records
pub head_count : (cs : Classes) (hs : List ClassHead) → hs ≡ heads_in cs → length hs ≡ length cs
head_count cs hs agree = ap length agree ∙ simp length-map
