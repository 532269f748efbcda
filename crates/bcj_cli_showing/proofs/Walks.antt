-- The classes in preorder, as a loop goes over them.
use Rattle.std.proofs.Common.{◌≡◌, ◌+◌, ◌-◌, ◌<◌, ◌≤◌, ℕ, suc, List, [], ◌∷◌, ◌++◌, length, position, count_by, slice_get, flat_map, Option, None, Some, false, cond, IfSome, refl, sym, ◌∙◌, ap, subst, arith, inl, inr, append_assoc, append-nil, length-append}
use Rattle.std.proofs.lemmas.Bool.{cases_Bool}
use Rattle.std.proofs.lemmas.List.Sums.{sum_by-cons, sum_by-append}
use Rattle.std.proofs.lemmas.List.Concat.{flat_map-append}
use Rattle.std.specs.Option.{option_map}
use Rattle.std.specs.List.{Contains, slice_index_or}
use Rattle.std.specs.Str.{bytes_eq}
use Rattle.bcj_symbolic_trees.specs.declared.class_tree.ClassHead.{ClassHead}
use Rattle.bcj_symbolic_trees.specs.Names.{object_name}
use Rattle.bcj_hier_rules.specs.declared.class_id.ClassId.{ClassId}
use Rattle.bcj_hier_rules.specs.Shapes.{Named, Mixture}
use Rattle.bcj_hier_rules.specs.Loading.{is_interface, load_error}
use Rattle.bcj_hier_rules.specs.Trees.{preorder, low, number_behind, next_in_tree}
use Rattle.bcj_hier_rules.specs.Heads.{of_heads, number_of, IsIn, name_of, IsRooted}
use Rattle.bcj_hier_soundness.specs.Laws as law
use Rattle.bcj_hier_soundness.proofs.Names.{bytes_same}
use Rattle.bcj_hier_soundness.proofs.Numbers.{each_class_stands_once, each_that_stands_loads}
use Rattle.bcj_hier_soundness.proofs.Distinct.{position_first}
use Rattle.bcj_cli_showing.specs.Trees.{HaveTree}
use Rattle.bcj_cli_showing.specs.Lines.{tree_line}
use Rattle.bcj_cli_showing.specs.Text.{tree_lines}
use Rattle.bcj_cli_showing.proofs.Heads.{object_of, object_loads, object_is_class, hierarchy}

-- ---- places

-- how often a name stands in a list that has it in the middle
count_middle : (c : Named) (before rest : List Named) → count_by (bytes_eq c) (before ++ c ∷ rest) ≡ count_by (bytes_eq c) before + suc (count_by (bytes_eq c) rest)
count_middle c before rest =
    let f : Named → ℕ = λ y. cond (bytes_eq c y) 1 0 in
    let split : count_by (bytes_eq c) (before ++ c ∷ rest) ≡ count_by (bytes_eq c) before + count_by (bytes_eq c) (c ∷ rest) = sum_by-append f before (c ∷ rest) in
    let first : count_by (bytes_eq c) (c ∷ rest) ≡ 1 + count_by (bytes_eq c) rest = sum_by-cons f c rest ∙ ap (λ t. cond t 1 0 + count_by (bytes_eq c) rest) (bytes_same c) in
    omega arith

-- a name that stands nowhere before has the place behind that
place_middle : (c : Named) (before rest : List Named) → count_by (bytes_eq c) before ≡ 0 → position (bytes_eq c) (before ++ c ∷ rest) ≡ Some (length before)
place_middle c [] rest none = position_first (bytes_eq c) c rest ∙ ap (λ t. cond t (Some 0) (option_map suc (position (bytes_eq c) rest))) (bytes_same c)
place_middle c (x ∷ xs) rest none =
    let f : Named → ℕ = λ y. cond (bytes_eq c y) 1 0 in
    let first : count_by (bytes_eq c) (x ∷ xs) ≡ f x + count_by (bytes_eq c) xs = sum_by-cons f x xs in
    let later : count_by (bytes_eq c) xs ≡ 0 = omega arith in
    elim (cases_Bool (bytes_eq c x)) [
      | inl same ↦
          let one : f x ≡ 1 = ap (λ t. cond t 1 0) same in
          absurd (omega (arith, none, first, one))
      | inr other ↦
          position_first (bytes_eq c) x (xs ++ c ∷ rest)
          ∙ (ap (λ t. cond t (Some 0) (option_map suc (position (bytes_eq c) (xs ++ c ∷ rest)))) other
          ∙ ap (option_map suc) (place_middle c xs rest later))
    ]

-- the number of a class that loads, by its place
low_middle : (m : Mixture) → law.IsHierarchy m → (c : Named) → load_error m c ≡ None → is_interface m c ≡ false → (before rest : List Named) → preorder m ≡ before ++ c ∷ rest → low m c ≡ suc (length before)
low_middle m h c loads class before rest whole =
    let once : count_by (bytes_eq c) (preorder m) ≡ 1 = each_class_stands_once m h c loads class in
    let again : count_by (bytes_eq c) (before ++ c ∷ rest) ≡ 1 = sym (ap (count_by (bytes_eq c)) whole) ∙ once in
    let none : count_by (bytes_eq c) before ≡ 0 = omega (arith, again, count_middle c before rest) in
    ap (λ l. number_behind (position (bytes_eq c) l)) whole ∙ ap number_behind (place_middle c before rest none)

get_behind : (before rest : List Named) (c : Named) → slice_get (before ++ c ∷ rest) (suc (length before)) ≡ slice_get rest 0
get_behind [] rest c = refl
get_behind (x ∷ xs) rest c = get_behind xs rest c

index_middle : (before rest : List Named) (c : Named) → slice_index_or (before ++ c ∷ rest) (length before) c ≡ c
index_middle [] rest c = refl
index_middle (x ∷ xs) rest c = index_middle xs rest c

contains_middle : (before rest : List Named) (c : Named) → Contains (before ++ c ∷ rest) c
contains_middle before rest c = (length before, omega (arith, length-append before (c ∷ rest)), index_middle before rest c)

-- ---- the walk

abbrev pub name_option : List ClassHead → Option ClassId → Option Named
name_option heads next = option_map (λ c. name_of heads c) next

-- what a loop keeps: the lines of the classes before the next one
pub record Walk (heads : List ClassHead) (start out : List ℕ) (next : Option ClassId) : Type 0 where
  pub before : List Named
  pub behind : List Named
  pub whole : preorder (of_heads heads) ≡ before ++ behind
  pub said : out ≡ start ++ flat_map (tree_line (of_heads heads)) before
  pub place : name_option heads next ≡ slice_get behind 0
  pub there : IfSome next (λ c. IsIn heads c)

-- a class of the walk: where it stands, and that it loads
pub record Stands (heads : List ClassHead) (c : ClassId) (before behind : List Named) : Type 0 where
  pub rest : List Named
  pub first : behind ≡ name_of heads c ∷ rest
  pub loads : load_error (of_heads heads) (name_of heads c) ≡ None
  pub class : is_interface (of_heads heads) (name_of heads c) ≡ false
  pub number : low (of_heads heads) (name_of heads c) ≡ suc (length before)

stands_at : (heads : List ClassHead) → HaveTree heads → (c : ClassId) (before behind : List Named) → preorder (of_heads heads) ≡ before ++ behind → Some (name_of heads c) ≡ slice_get behind 0 → Stands heads c before behind
stands_at heads t c before [] whole place = cc
stands_at heads t c before (x ∷ rest) whole place =
    let m : Mixture = of_heads heads in
    let same : x ≡ name_of heads c = cc in
    let split : preorder m ≡ before ++ name_of heads c ∷ rest = whole ∙ ap (λ y. before ++ y ∷ rest) same in
    let P : List Named → Type 0 = λ l. Contains l (name_of heads c) in
    let inside : Contains (preorder m) (name_of heads c) = subst P (sym split) (contains_middle before rest (name_of heads c)) in
    let both : (load_error m (name_of heads c) ≡ None) × (is_interface m (name_of heads c) ≡ false) =
    each_that_stands_loads m (hierarchy heads t) (object_loads heads t.rooted) (object_is_class heads t.rooted) (name_of heads c) inside in
    record {
      rest = rest;
      first = ap (λ y. y ∷ rest) same;
      loads = both.0;
      class = both.1;
      number = low_middle m (hierarchy heads t) (name_of heads c) both.0 both.1 before rest split;
    }

pub stands : (heads : List ClassHead) → HaveTree heads → (start out : List ℕ) (c : ClassId) → (w : Walk heads start out (Some c)) → Stands heads c w.before w.behind
stands heads t start out c w = stands_at heads t c w.before w.behind w.whole w.place

-- the walk begins with Object
start_named : (heads : List ClassHead) → IsRooted heads → (next : Option ClassId) → option_map (λ c. c.0) next ≡ Some 0 → name_option heads next ≡ Some object_name
start_named heads r None found = cc
start_named heads r (Some c) found =
    let zero_it : c.0 ≡ 0 = cc in
    let same : c ≡ record { 0 = 0 } = ap (λ n. record { 0 = n }) zero_it in
    ap (λ d. Some (name_of heads d)) same ∙ ap Some (object_of heads r).named

pub walk_start : (heads : List ClassHead) → HaveTree heads → (start : List ℕ) (next : Option ClassId) → option_map (λ c. c.0) next ≡ number_of heads object_name → IfSome next (λ c. IsIn heads c) → Walk heads start start next
walk_start heads t start next found there = record {
  before = [];
  behind = preorder (of_heads heads);
  whole = refl;
  said = sym (append-nil start);
  place = start_named heads t.rooted next (found ∙ (object_of heads t.rooted).first);
  there = there;
}

next_by : (m : Mixture) (c : Named) → is_interface m c ≡ false → next_in_tree m c ≡ slice_get (preorder m) (low m c)
next_by m c class = ap (λ b. cond b None (slice_get (preorder m) (low m c))) class

-- one class more
pub walk_more : (heads : List ClassHead) → HaveTree heads → (start out : List ℕ) (c : ClassId) (next : Option ClassId) → Walk heads start out (Some c)
    → name_option heads next ≡ next_in_tree (of_heads heads) (name_of heads c) → IfSome next (λ d. IsIn heads d)
    → Walk heads start (out ++ tree_line (of_heads heads) (name_of heads c)) next
walk_more heads t start out c next w goes there =
    let m : Mixture = of_heads heads in
    let s : Stands heads c w.before w.behind = stands heads t start out c w in
    let name : Named = name_of heads c in
    let split : preorder m ≡ w.before ++ name ∷ s.rest = w.whole ∙ ap (λ l. w.before ++ l) s.first in
    record {
      before = w.before ++ name ∷ [];
      behind = s.rest;
      whole = split ∙ sym (append_assoc w.before (name ∷ []) s.rest);
      said =
          ap (λ l. l ++ tree_line m name) w.said
          ∙ (append_assoc start (flat_map (tree_line m) w.before) (tree_line m name)
          ∙ ap (λ l. start ++ l) (ap (λ l. flat_map (tree_line m) w.before ++ l) (sym (append-nil (tree_line m name))) ∙ sym (flat_map-append (tree_line m) w.before (name ∷ []))));
      place =
          goes
          ∙ (next_by m name s.class
          ∙ (ap (slice_get (preorder m)) s.number
          ∙ (ap (λ l. slice_get l (suc (length w.before))) split ∙ get_behind w.before s.rest name)));
      there = there;
    }

none_left : (xs : List Named) → None ≡ slice_get xs 0 → xs ≡ []
none_left [] e = refl
none_left (x ∷ xs) e = cc

-- all classes
pub walk_end : (heads : List ClassHead) (start out : List ℕ) → Walk heads start out None → out ≡ start ++ tree_lines (of_heads heads)
unfolding tree_lines
walk_end heads start out w =
    let m : Mixture = of_heads heads in
    let all : preorder m ≡ w.before = w.whole ∙ (ap (λ l. w.before ++ l) (none_left w.behind w.place) ∙ append-nil w.before) in
    w.said ∙ ap (λ l. start ++ flat_map (tree_line m) l) (sym all)

-- ---- the measure

-- how many classes are left
abbrev pub left : List ClassHead → Option ClassId → ℕ
left heads None = 0
left heads (Some c) = suc (length (preorder (of_heads heads))) - low (of_heads heads) (name_of heads c)

count_left : (heads : List ClassHead) → HaveTree heads → (start out : List ℕ) (next : Option ClassId) → (w : Walk heads start out next) → left heads next ≤ length w.behind
count_left heads t start out None w = omega arith
count_left heads t start out (Some c) w =
    let s : Stands heads c w.before w.behind = stands heads t start out c w in
    let whole : length (preorder (of_heads heads)) ≡ length w.before + length w.behind = ap length w.whole ∙ length-append w.before w.behind in
    omega (arith, s.number, whole)

pub left_falls : (heads : List ClassHead) → HaveTree heads → (start out : List ℕ) (c : ClassId) (next : Option ClassId) → (w : Walk heads start out (Some c))
    → name_option heads next ≡ next_in_tree (of_heads heads) (name_of heads c) → IfSome next (λ d. IsIn heads d) → left heads next < left heads (Some c)
unfolding stands walk_more
left_falls heads t start out c next w goes there =
    let s : Stands heads c w.before w.behind = stands heads t start out c w in
    let v : Walk heads start (out ++ tree_line (of_heads heads) (name_of heads c)) next = walk_more heads t start out c next w goes there in
    let few : left heads next ≤ length s.rest = count_left heads t start (out ++ tree_line (of_heads heads) (name_of heads c)) next v in
    let whole : length (preorder (of_heads heads)) ≡ length w.before + length w.behind = ap length w.whole ∙ length-append w.before w.behind in
    let one : length w.behind ≡ suc (length s.rest) = ap length s.first in
    omega (arith, s.number, whole, one, few)
