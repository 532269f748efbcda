-- Heads whose names are distinct: where they stand, what stands above them, and that Object loads.
use Rattle.std.proofs.Common.{◌≡◌, ℕ, List, [], ◌∷◌, length, get_or, slice_get, Option, None, Some, Bool, true, false, cond, ◌||◌, refl, sym, ◌∙◌, ap, subst, is_none, suc}
use Rattle.std.proofs.lemmas.Bool.{and_parts}
use Rattle.std.proofs.lemmas.Option.{slice_get-get_or}
use Rattle.std.specs.List.{list_all}
use Rattle.std.specs.Option.{option_map, option_map_or, option_or}
use Rattle.std.specs.Str.{bytes_eq}
use Rattle.bcj_symbolic_trees.specs.declared.class_tree.ClassHead.{ClassHead}
use Rattle.bcj_symbolic_trees.specs.Names.{object_name}
use Rattle.bcj_hier_rules.specs.declared.class_id.ClassId.{ClassId}
use Rattle.bcj_hier_rules.specs.declared.link_error.LinkError.{LinkError}
use Rattle.bcj_hier_rules.specs.declared.link_error.LinkError.TheVariants as error
use Rattle.bcj_hier_rules.specs.Shapes.{Named, Shape, Mixture, found}
use Rattle.bcj_hier_rules.specs.Loading.{is_interface, load_within, load_error, head_error, superclass_error, interfaces_error}
use Rattle.bcj_hier_rules.specs.Resolution.{same_bool}
use Rattle.bcj_hier_rules.specs.Heads.{head_shape, of_heads, number_of, is_called, IsIn, name_of, superclass_of, IsRooted, is_placed}
use Rattle.bcj_cli_showing.specs.Trees.{HaveTree}
use Rattle.bcj_hier_soundness.specs.Laws as law
use Rattle.bcj_hier_soundness.proofs.Names.{bytes_same}
use Rattle.bcj_hier_soundness.proofs.Loads.{superclasses_load}
use Rattle.bcj_hier_soundness.proofs.Distinct.{heads_are_found, heads_make_hierarchies, position_first}

-- the head of a type
pub record HeadOf (heads : List ClassHead) (c : ClassId) : Type 0 where
  pub head : ClassHead
  pub named : name_of heads c ≡ head.name
  pub above : superclass_of heads c ≡ head.superclass
  pub is_it : found (of_heads heads) (name_of heads c) ≡ Some (head_shape head)

pub head_of : (heads : List ClassHead) → HaveTree heads → (c : ClassId) → IsIn heads c → HeadOf heads c
head_of heads tree c there =
    let h : ClassHead = get_or heads c.0 tree.rooted.top in
    let at : slice_get heads c.0 ≡ Some h = slice_get-get_or heads c.0 tree.rooted.top there in
    let named : name_of heads c ≡ h.name = ap (λ o. option_map_or (λ g. g.name) o []) at in
    record {
      head = h;
      named = named;
      above = ap (λ o. elim o [ None ↦ None | Some g ↦ g.superclass ]) at;
      is_it = ap (found (of_heads heads)) named ∙ heads_are_found heads c.0 h tree.distinct at;
    }

-- what stands above a class that loads, loads
pub parent_loads : (heads : List ClassHead) (c p : ClassId) → (h : HeadOf heads c) → load_error (of_heads heads) (name_of heads c) ≡ None
    → superclass_of heads c ≡ Some (name_of heads p) → load_error (of_heads heads) (name_of heads p) ≡ None
parent_loads heads c p h loads up =
    (superclasses_load (of_heads heads) (name_of heads c) (name_of heads p) (head_shape h.head) loads h.is_it (sym h.above ∙ up)).0

-- ---- Object

-- Object's head
pub record IsObject (heads : List ClassHead) (top : ClassHead) : Type 0 where
  pub is_it : found (of_heads heads) object_name ≡ Some (head_shape top)
  pub first : number_of heads object_name ≡ Some 0
  pub named : name_of heads (record { 0 = 0 }) ≡ object_name
  pub class : top.interface ≡ false
  pub nothing_above : top.superclass ≡ None
  pub alone : top.interfaces ≡ []

none_from : {A : Type 0} (o : Option A) → is_none o ≡ true → o ≡ None
none_from None h = refl
none_from (Some x) h = cc

or_with : (a b : Bool) → b ≡ true → (a || b) ≡ true
or_with true b h = refl
or_with false b h = h

same_true : (a b : Bool) → same_bool a b ≡ true → b ≡ true → a ≡ true
same_true true b h e = refl
same_true false true h e = cc
same_true false false h e = cc

no_superclass : (top : ClassHead) → top.name ≡ object_name → is_placed top ≡ true → top.superclass ≡ None
no_superclass top named placed =
    let called : bytes_eq top.name object_name ≡ true = ap (λ n. bytes_eq n object_name) named ∙ bytes_same object_name in
    none_from top.superclass (same_true (is_none top.superclass) (top.interface || bytes_eq top.name object_name) placed (or_with top.interface (bytes_eq top.name object_name) called))

object_at : (top : ClassHead) (others : List ClassHead) → top.name ≡ object_name → top.interface ≡ false → top.interfaces ≡ [] → is_placed top ≡ true → IsObject (top ∷ others) top
object_at top others named class alone placed =
    let called : bytes_eq top.name object_name ≡ true = ap (λ n. bytes_eq n object_name) named ∙ bytes_same object_name in
    record {
      is_it = ap (λ b. cond b (Some (head_shape top)) (found (of_heads others) object_name)) called;
      first = position_first (is_called object_name) top others ∙ ap (λ b. cond b (Some 0) (option_map suc (number_of others object_name))) called;
      named = named;
      class = class;
      nothing_above = no_superclass top named placed;
      alone = alone;
    }

pub object_of : (heads : List ClassHead) → (r : IsRooted heads) → IsObject heads r.top
object_of heads r =
    let all : list_all is_placed (r.top ∷ r.others) ≡ true = sym (ap (list_all is_placed) r.first) ∙ r.placed in
    let P : List ClassHead → Type 0 = λ l. IsObject l r.top in
    subst P (sym r.first) (object_at r.top r.others r.named r.class r.alone (and_parts (is_placed r.top) (list_all is_placed r.others) all).0)

-- the first turn of a search for why a type doesn't load
abbrev load_at : ℕ → Mixture → Named → Option Shape → Option LinkError
load_at n m name None = Some error.NoClassDefFound
load_at n m name (Some s) = head_error m (load_within m n (name ∷ [])) s

pub object_loads : (heads : List ClassHead) → IsRooted heads → load_error (of_heads heads) object_name ≡ None
object_loads heads r =
    let m : Mixture = of_heads heads in
    let o : IsObject heads r.top = object_of heads r in
    let load : Named → Option LinkError = load_within m (length m) (object_name ∷ []) in
    ap (load_at (length m) m object_name) o.is_it
    ∙ (ap (λ up. option_or (superclass_error m load up) (interfaces_error m load r.top.interfaces)) o.nothing_above
    ∙ ap (interfaces_error m load) o.alone)

pub object_is_class : (heads : List ClassHead) → IsRooted heads → is_interface (of_heads heads) object_name ≡ false
object_is_class heads r =
    let o : IsObject heads r.top = object_of heads r in
    ap (λ s. option_map_or (λ t. t.head.interface) s false) o.is_it ∙ o.class

pub hierarchy : (heads : List ClassHead) → HaveTree heads → law.IsHierarchy (of_heads heads)
hierarchy heads t = heads_make_hierarchies heads t.distinct t.rooted.placed
