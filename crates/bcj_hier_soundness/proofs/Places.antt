-- The places of classes in preorder, for a walk that meets them one by one.
use Rattle.std.proofs.Common.{◌≡◌, ◌+◌, ◌<◌, ◌≤◌, List, [], ◌∷◌, ◌++◌, flat_map, position, count_by, slice_get, Option, Some, None, Bool, true, false, cond, ◌||◌, refl, sym, ◌∙◌, ap, ℕ, zero, suc, length, inl, inr, is_none, arith}
use Rattle.std.proofs.lemmas.Bool.{cases_Bool, and_parts, or_cases, or_left, or_right}
use Rattle.std.proofs.lemmas.List.Concat.{flat_map-append}
use Rattle.std.proofs.lemmas.List.Sums.{sum_by-cons, sum_by-append}
use Rattle.std.specs.Option.{option_or, option_map}
use Rattle.std.specs.List.{list_all}
use Rattle.std.specs.Str.{bytes_eq}
use Rattle.bcj_symbolic_trees.specs.declared.class_tree.ClassHead.{ClassHead}
use Rattle.bcj_symbolic_trees.specs.Names.{object_name}
use Rattle.bcj_hier_rules.specs.declared.link_error.LinkError.{LinkError}
use Rattle.bcj_hier_rules.specs.Shapes.{Named, Shape, Mixture, found}
use Rattle.bcj_hier_rules.specs.Loading.{is_interface, turns, superclass_error, interfaces_error, load_error}
use Rattle.bcj_hier_rules.specs.Resolution.{same_bool}
use Rattle.bcj_hier_rules.specs.Trees.{children, preorder_within, preorder_of, preorder, number_behind, low}
use Rattle.bcj_hier_rules.specs.Heads.{head_shape, of_heads, is_placed}
use Rattle.bcj_hier_soundness.specs.Laws as law
use Rattle.bcj_hier_soundness.proofs.Names.{is_in, same_bytes, bytes_same, in_first, in_middle}
use Rattle.bcj_hier_soundness.proofs.Turns.{left, left_falls, left_all}
use Rattle.bcj_hier_soundness.proofs.Circles.{Class, class_itself, class_of, class_above, interface_by}
use Rattle.bcj_hier_soundness.proofs.Children.{child_of}
use Rattle.bcj_hier_soundness.proofs.Preorder.{same_lists, part_stays}
use Rattle.bcj_hier_soundness.proofs.Numbers.{count_none, stands_class, each_class_stands_once}
use Rattle.bcj_hier_soundness.proofs.Distinct.{position_first, heads_make_hierarchies}
use Rattle.bcj_hier_soundness.proofs.Free.{by_parts, loads_by_parts}

-- ---- walks

class_by_error : (m : Mixture) (c : Named) (k : Class m c) → (load_error m c ≡ None) × (is_interface m c ≡ false)
class_by_error m c k = (k.loads, ap interface_by k.is_it ∙ k.class)

shape_of : (m : Mixture) (c : Named) → Class m c → (s : Shape) × (found m c ≡ Some s)
shape_of m c k = (k.shape, k.is_it)

pub children_load : law.ChildrenLoad
children_load m h p e i = class_by_error m e (class_itself m p e (child_of m h p e i))

pub preorder_unrolls : law.PreorderUnrolls
preorder_unrolls m h d ok class =
    ap (λ l. d ∷ l)
    (same_lists (preorder_within (length m) m) (preorder_of m) (children m d)
    (λ e i. sym (part_stays m h e (class_itself m d e (child_of m h d e i)))))

pub walk_goes_on : law.WalkGoesOn
walk_goes_on m h d rest ok class =
    ap (λ l. l ++ flat_map (preorder_of m) rest) (preorder_unrolls m h d ok class) ∙ ap (λ l. d ∷ l) (sym (flat_map-append (preorder_of m) (children m d) rest))

-- ---- names that stand once

abbrev count : Named → List Named → ℕ
count c xs = count_by (bytes_eq c) xs

count_first : (c x : Named) (xs : List Named) → count c (x ∷ xs) ≡ cond (bytes_eq c x) 1 0 + count c xs
count_first c x xs = sum_by-cons (λ y. cond (bytes_eq c y) 1 0) x xs

count_same : (c x : Named) (xs : List Named) → bytes_eq c x ≡ true → count c (x ∷ xs) ≡ 1 + count c xs
count_same c x xs it = count_first c x xs ∙ ap (λ b. cond b 1 0 + count c xs) it

count_other : (c x : Named) (xs : List Named) → bytes_eq c x ≡ false → count c (x ∷ xs) ≡ 0 + count c xs
count_other c x xs other = count_first c x xs ∙ ap (λ b. cond b 1 0 + count c xs) other

-- what is in a list is counted
count_some : (c : Named) (xs : List Named) → is_in c xs ≡ true → 1 ≤ count c xs
count_some c [] i = cc
count_some c (x ∷ xs) i =
    elim (cases_Bool (bytes_eq c x)) [
      | inl it ↦
          let first : count c (x ∷ xs) ≡ 1 + count c xs = count_same c x xs it in
          omega arith
      | inr other ↦
          let first : count c (x ∷ xs) ≡ 0 + count c xs = count_other c x xs other in
          let rest : 1 ≤ count c xs = count_some c xs (ap (λ b. b || is_in c xs) (sym other) ∙ i) in
          omega arith
    ]

in_place : (c : Named) (xs : List Named) (k : ℕ) → slice_get xs k ≡ Some c → is_in c xs ≡ true
in_place c [] k e = cc
in_place c (x ∷ xs) zero e =
    let same : x ≡ c = cc in
    or_left (bytes_eq c x) (is_in c xs) (ap (bytes_eq c) same ∙ bytes_same c)
in_place c (x ∷ xs) (suc k) e = or_right (bytes_eq c x) (is_in c xs) (in_place c xs k e)

-- where a name that stands once stands
place_once : (c : Named) (xs : List Named) (k : ℕ) → count c xs ≡ 1 → slice_get xs k ≡ Some c → position (bytes_eq c) xs ≡ Some k
place_once c [] k once e = cc
place_once c (x ∷ xs) zero once e =
    let same : x ≡ c = cc in
    position_first (bytes_eq c) x xs ∙ ap (λ b. cond b (Some 0) (option_map suc (position (bytes_eq c) xs))) (ap (bytes_eq c) same ∙ bytes_same c)
place_once c (x ∷ xs) (suc k) once e =
    elim (cases_Bool (bytes_eq c x)) [
      | inl it ↦
          let first : count c (x ∷ xs) ≡ 1 + count c xs = count_same c x xs it in
          let more : 1 ≤ count c xs = count_some c xs (in_place c xs k e) in
          absurd (omega arith)
      | inr other ↦
          let first : count c (x ∷ xs) ≡ 0 + count c xs = count_other c x xs other in
          let rest : count c xs ≡ 1 = omega arith in
          position_first (bytes_eq c) x xs ∙ (ap (λ b. cond b (Some 0) (option_map suc (position (bytes_eq c) xs))) other ∙ ap (option_map suc) (place_once c xs k rest e))
    ]

none_before : (c : Named) (before behind : List Named) → count c (before ++ c ∷ behind) ≡ 1 → is_in c before ≡ false
none_before c before behind once =
    elim (cases_Bool (is_in c before)) [
      | inl inside ↦
          let all : count c (before ++ c ∷ behind) ≡ count c before + count c (c ∷ behind) = sum_by-append (λ y. cond (bytes_eq c y) 1 0) before (c ∷ behind) in
          let some : 1 ≤ count c before = count_some c before inside in
          let own : 1 ≤ count c (c ∷ behind) = count_some c (c ∷ behind) (in_first c behind) in
          absurd (omega arith)
      | inr out ↦ out
    ]

get_middle : (c : Named) (before behind : List Named) → slice_get (before ++ c ∷ behind) (length before) ≡ Some c
get_middle c [] behind = refl
get_middle c (x ∷ xs) behind = get_middle c xs behind

-- ---- the names in preorder

no_members : (xs : List Named) → ((e : Named) → is_in e xs ≡ true → ⊥) → xs ≡ []
no_members [] none = refl
no_members (x ∷ xs) none = absurd (none x (in_first x xs))

-- where Object has no children it stands alone
once_alone : (m : Mixture) → law.IsHierarchy m → (Class m object_name → ⊥) → (c : Named) → is_in c (preorder m) ≡ true → count c (preorder m) ≡ 1
once_alone m h none c i =
    let none_below : children m object_name ≡ [] = no_members (children m object_name) (λ e j. none (class_above m object_name e (child_of m h object_name e j))) in
    let alone : preorder m ≡ object_name ∷ [] = ap (λ l. object_name ∷ flat_map (preorder_within (length m) m) l) none_below in
    elim (or_cases (bytes_eq c object_name) false (ap (is_in c) (sym alone) ∙ i)) [ inl it ↦ ap (count c) alone ∙ count_same c object_name [] it | inr none_else ↦ absurd (cc) ]

once_by : (m : Mixture) → law.IsHierarchy m → (o : Option LinkError) → load_error m object_name ≡ o → (b : Bool) → is_interface m object_name ≡ b → (c : Named) → is_in c (preorder m) ≡ true → count c (preorder m) ≡ 1
once_by m h None ok false class c i =
    let k : Class m c = stands_class m h (turns m) object_name (class_of m object_name ok class) c i in
    each_class_stands_once m h c k.loads (ap interface_by k.is_it ∙ k.class)
once_by m h None ok true class c i =
    once_alone m h
    (λ k.
    let wrong : true ≡ false = sym class ∙ (class_by_error m object_name k).1 in
    cc) c i
once_by m h (Some e) bad b class c i =
    once_alone m h
    (λ k.
    let wrong : Some e ≡ None = sym bad ∙ k.loads in
    cc) c i

stands_once : (m : Mixture) → law.IsHierarchy m → (c : Named) → is_in c (preorder m) ≡ true → count c (preorder m) ≡ 1
stands_once m h c i = once_by m h (load_error m object_name) refl (is_interface m object_name) refl c i

pub low_is_place : law.LowIsPlace
low_is_place m h k c e = ap number_behind (place_once c (preorder m) k (stands_once m h c (in_place c (preorder m) k e)) e)

pub low_behind : law.LowBehind
low_behind m h before behind c e = low_is_place m h (length before) c (ap (λ l. slice_get l (length before)) e ∙ get_middle c before behind)

pub none_stands_before : law.NoneStandsBefore
none_stands_before m h before behind c e =
    let inside : is_in c (preorder m) ≡ true = ap (is_in c) e ∙ in_middle c before behind in
    none_before c before behind (ap (count c) (sym e) ∙ stands_once m h c inside)

pub places_differ : law.PlacesDiffer
places_differ m h i k c e f =
    let first : low m c ≡ suc i = low_is_place m h i c e in
    let second : low m c ≡ suc k = low_is_place m h k c f in
    omega arith

-- a name of a list has a place
place_of : (c : Named) (xs : List Named) → is_in c xs ≡ true → (k : ℕ) × (slice_get xs k ≡ Some c)
place_of c [] i = cc
place_of c (x ∷ xs) i =
    elim (or_cases (bytes_eq c x) (is_in c xs) i) [
      | inl it ↦ (0, ap Some (sym (same_bytes c x it)))
      | inr other ↦
          let rest : (k : ℕ) × (slice_get xs k ≡ Some c) = place_of c xs other in
          (suc rest.0, rest.1)
    ]

counted : (c : Named) (xs : List Named) → count c xs ≡ 1 → is_in c xs ≡ true
counted c xs once =
    elim (cases_Bool (is_in c xs)) [
      | inl inside ↦ inside
      | inr out ↦
          let none : count c xs ≡ 0 = count_none c xs out in
          absurd (omega arith)
    ]

pub classes_stand : law.ClassesStand
classes_stand m h c ok class =
    let once : count c (preorder m) ≡ 1 = each_class_stands_once m h c ok class in
    let inside : is_in c (preorder m) ≡ true = counted c (preorder m) once in
    let p : (k : ℕ) × (slice_get (preorder m) k ≡ Some c) = place_of c (preorder m) inside in
    (p.0, p.1, low_is_place m h p.0 c p.1)

pub places_load : law.PlacesLoad
places_load m h ok class k c e = class_by_error m c (stands_class m h (turns m) object_name (class_of m object_name ok class) c (in_place c (preorder m) k e))

-- ---- how many stand there

-- each of these names stands there once, and none was passed
record Fresh (m : Mixture) (seen xs : List Named) : Type 0 where
  there : (c : Named) → is_in c xs ≡ true → (s : Shape) × (found m c ≡ Some s)
  new : (c : Named) → is_in c xs ≡ true → is_in c seen ≡ false
  once : (c : Named) → is_in c xs ≡ true → count c xs ≡ 1

-- none behind the first is the first
other_than_first : (x : Named) (xs : List Named) → ((c : Named) → is_in c (x ∷ xs) ≡ true → count c (x ∷ xs) ≡ 1) → (c : Named) → is_in c xs ≡ true → bytes_eq c x ≡ false
other_than_first x xs once c i =
    elim (cases_Bool (bytes_eq c x)) [
      | inl it ↦
          let first : count c (x ∷ xs) ≡ 1 + count c xs = count_same c x xs it in
          let all : count c (x ∷ xs) ≡ 1 = once c (or_right (bytes_eq c x) (is_in c xs) i) in
          let more : 1 ≤ count c xs = count_some c xs i in
          absurd (omega arith)
      | inr other ↦ other
    ]

fresh_rest : (m : Mixture) (seen : List Named) (x : Named) (xs : List Named) → Fresh m seen (x ∷ xs) → Fresh m (x ∷ seen) xs
fresh_rest m seen x xs f = record {
  there = λ c i. f.there c (or_right (bytes_eq c x) (is_in c xs) i);
  new = λ c i. ap (λ b. b || is_in c seen) (other_than_first x xs f.once c i) ∙ f.new c (or_right (bytes_eq c x) (is_in c xs) i);
  once = λ c i.
      let first : count c (x ∷ xs) ≡ 0 + count c xs = count_other c x xs (other_than_first x xs f.once c i) in
      let all : count c (x ∷ xs) ≡ 1 = f.once c (or_right (bytes_eq c x) (is_in c xs) i) in
      omega arith;
}

fresh_few : (m : Mixture) (seen xs : List Named) → Fresh m seen xs → length xs ≤ left seen m
fresh_few m seen [] f = omega arith
fresh_few m seen (x ∷ xs) f =
    let t : (s : Shape) × (found m x ≡ Some s) = f.there x (in_first x xs) in
    let falls : left (x ∷ seen) m < left seen m = left_falls x t.0 seen m (f.new x (in_first x xs)) t.1 in
    let rest : length xs ≤ left (x ∷ seen) m = fresh_few m (x ∷ seen) xs (fresh_rest m seen x xs f) in
    omega arith

pub few_stand : law.FewStand
few_stand m h ok class =
    let k : Class m object_name = class_of m object_name ok class in
    let few : length (preorder m) ≤ left [] m =
    fresh_few m [] (preorder m) (record {
      there = λ c i. shape_of m c (stands_class m h (turns m) object_name k c i);
      new = λ c i. refl;
      once = stands_once m h;
    }) in
    omega (arith, left_all m)

-- ---- the root

placed_top : (top : ClassHead) (o : Option Named) → same_bool (is_none o) true ≡ true → o ≡ None
placed_top top None h = refl
placed_top top (Some p) h = cc

pub roots_load : law.RootsLoad
roots_load heads r =
    let m : Mixture = of_heads heads in
    let e : found m object_name ≡ Some (head_shape r.top) =
    ap (λ l. found (of_heads l) object_name) r.first ∙ ap (λ b. cond b (Some (head_shape r.top)) (found (of_heads r.others) object_name)) (ap (λ n. bytes_eq n object_name) r.named ∙ bytes_same object_name) in
    let all : list_all is_placed (r.top ∷ r.others) ≡ true = ap (list_all is_placed) (sym r.first) ∙ r.placed in
    let placed : is_placed r.top ≡ true = (and_parts (is_placed r.top) (list_all is_placed r.others) all).0 in
    let named : bytes_eq r.top.name object_name ≡ true = ap (λ n. bytes_eq n object_name) r.named ∙ bytes_same object_name in
    let by_name : same_bool (is_none r.top.superclass) true ≡ true = sym (ap (λ b. same_bool (is_none r.top.superclass) (b || bytes_eq r.top.name object_name)) r.class ∙ ap (same_bool (is_none r.top.superclass)) named) ∙ placed in
    let none : r.top.superclass ≡ None = placed_top r.top r.top.superclass by_name in (
      loads_by_parts m object_name
          ∙ (ap (by_parts m (load_error m)) e
          ∙ (ap (λ o. option_or (superclass_error m (load_error m) o) (interfaces_error m (load_error m) r.top.interfaces)) none ∙ ap (interfaces_error m (load_error m)) r.alone)),
      ap interface_by e ∙ r.class,
    )

pub roots_make_hierarchies : law.RootsMakeHierarchies
roots_make_hierarchies heads distinct r = heads_make_hierarchies heads distinct r.placed
