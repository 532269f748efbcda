-- A walk over the tree of classes, step by step.
use Rattle.std.proofs.Common.{◌≡◌, ◌<◌, ◌≤◌, ◌+◌, ◌==◌, ◌||◌, ℕ, suc, Bool, true, false, cond, List, [], ◌∷◌, ◌++◌, map, length, slice_get, slice_index_or, count_by, flat_map, None, Some, refl, sym, ◌∙◌, ap, subst, arith, inl, inr, length-append, append_assoc, append-nil}
use Rattle.std.proofs.lemmas.Bool.{cases_Bool, cases_eq, eq-eqb, ne_eqb, or_parts, le-ltb}
use Rattle.std.proofs.lemmas.Option.{slice_get_within}
use Rattle.std.proofs.lemmas.List.Sums.{sum_by-cons}
use Rattle.std.specs.List.{list_any, position_or_len}
use Rattle.std.specs.Str.{bytes_eq}
use Rattle.bcj_symbolic_trees.specs.Names.{object_name}
use Rattle.bcj_symbolic_trees.specs.declared.class_tree.ClassHead.{ClassHead}
use Rattle.bcj_hier_rules.specs.Shapes.{Named}
use Rattle.bcj_hier_rules.specs.Heads.{of_heads, head_shape, AreDistinct, IsRooted}
use Rattle.bcj_hier_rules.specs.Loading.{load_error, is_interface}
use Rattle.bcj_hier_rules.specs.Trees as tree
use Rattle.bcj_hier_soundness.proofs.Places.{preorder_unrolls, low_behind, few_stand, roots_load, roots_make_hierarchies, classes_stand}
use Rattle.bcj_hier.specs.declared.visits.Visit.{Visit}
use Rattle.bcj_hier.specs.declared.visits.Visit.TheVariants.{Enter, Leave}
use Rattle.bcj_hier.specs.Numbers.{name_at}
use Rattle.bcj_hier.specs.Walks.{names_at, IsClassAt, AreClassesAt, HasChildrenFrom, rest_names, is_leave, work, leaves, Closes, AreVisits, IsWalk, IsTree, IsNoted, AreNoNumbers}
use Rattle.bcj_hier.proofs.Places.{none_passes, length_of_images}
use Rattle.bcj_hier.proofs.ByParts.{name_is, kind_is, kind_found, number_at, same_number, any_behind}

-- ---- stacks

abbrev below : List ClassHead → Named → List Named
below heads = tree.preorder_of (of_heads heads)

abbrev parts : List ClassHead → List ℕ → List Named
parts heads ns = flat_map (below heads) (names_at heads ns)

rest_enters : (heads : List ClassHead) (ns : List ℕ) (st : List Visit) → rest_names heads (map Enter ns ++ st) ≡ parts heads ns ++ rest_names heads st
rest_enters heads [] st = refl
rest_enters heads (k ∷ ns) st = ap (λ l. below heads (name_at heads k) ++ l) (rest_enters heads ns st) ∙ sym (append_assoc (below heads (name_at heads k)) (parts heads ns) (rest_names heads st))

leaves_enters : (k : ℕ) (ns : List ℕ) (st : List Visit) → leaves k (map Enter ns ++ st) ≡ leaves k st
leaves_enters k [] st = refl
leaves_enters k (n ∷ ns) st = leaves_enters k ns st

closes_enters : (heads : List ClassHead) (ns : List ℕ) (n : ℕ) (st : List Visit) → Closes heads (n + length (parts heads ns)) st → Closes heads n (map Enter ns ++ st)
closes_enters heads [] n st c = subst (λ (m : ℕ). Closes heads m st) (omega arith) c
closes_enters heads (k ∷ ns) n st c =
    let sum : n + length (parts heads (k ∷ ns)) ≡ n + length (below heads (name_at heads k)) + length (parts heads ns) = let e : length (below heads (name_at heads k) ++ parts heads ns) ≡ length (below heads (name_at heads k)) + length (parts heads ns) = length-append (below heads (name_at heads k)) (parts heads ns) in omega arith in
    closes_enters heads ns (n + length (below heads (name_at heads k))) st (subst (λ (m : ℕ). Closes heads m st) sum c)

visits_enters : (heads : List ClassHead) (ns : List ℕ) (st : List Visit) → AreClassesAt heads ns → AreVisits heads st → AreVisits heads (map Enter ns ++ st)
visits_enters heads [] st a v = v
visits_enters heads (k ∷ ns) st a v = (a.0, visits_enters heads ns st a.1 v)

abbrev leave_count : List Visit → ℕ
leave_count st = count_by is_leave st

count_enters : (ns : List ℕ) (st : List Visit) → leave_count (map Enter ns ++ st) ≡ leave_count st
count_enters [] st = refl
count_enters (n ∷ ns) st = sum_by-cons (λ v. cond (is_leave v) 1 0) (Enter n) (map Enter ns ++ st) ∙ (let e : leave_count (map Enter ns ++ st) ≡ leave_count st = count_enters ns st in omega arith)

count_leave : (k : ℕ) (st : List Visit) → leave_count (Leave k ∷ st) ≡ 1 + leave_count st
count_leave k st = sum_by-cons (λ v. cond (is_leave v) 1 0) (Leave k) st

count_enter : (k : ℕ) (st : List Visit) → leave_count (Enter k ∷ st) ≡ 0 + leave_count st
count_enter k st = sum_by-cons (λ v. cond (is_leave v) 1 0) (Enter k) st

classes_behind : (heads : List ClassHead) (ns : List ℕ) (k : ℕ) → AreClassesAt heads ns → IsClassAt heads k → AreClassesAt heads (ns ++ k ∷ [])
classes_behind heads [] k a c = (c, tt)
classes_behind heads (n ∷ ns) k a c = (a.0, classes_behind heads ns k a.1 c)

names_behind : (heads : List ClassHead) (ns : List ℕ) (k : ℕ) → names_at heads (ns ++ k ∷ []) ≡ names_at heads ns ++ name_at heads k ∷ []
names_behind heads [] k = refl
names_behind heads (n ∷ ns) k = ap (λ l. name_at heads n ∷ l) (names_behind heads ns k)

-- ---- classes

is_class : (heads : List ClassHead) → AreDistinct heads → (k : ℕ) → IsClassAt heads k → is_interface (of_heads heads) (name_at heads k) ≡ false
is_class heads distinct k c = sym (kind_found heads (name_at heads k) k (number_at heads distinct k c.within)) ∙ c.class

high_is : (heads : List ClassHead) → AreDistinct heads → (k : ℕ) → IsClassAt heads k → tree.high (of_heads heads) (name_at heads k) ≡ tree.low (of_heads heads) (name_at heads k) + length (below heads (name_at heads k))
high_is heads distinct k c = ap (λ b. cond b 0 (tree.low (of_heads heads) (name_at heads k) + length (below heads (name_at heads k)))) (is_class heads distinct k c)

-- what a walk has met is no more than the types
pub few_met : (heads : List ClassHead) → AreDistinct heads → IsRooted heads → (order lows highs : List ℕ) (stack : List Visit) → IsWalk heads order lows highs stack
    → length order + length (rest_names heads stack) ≤ length heads
few_met heads distinct rooted order lows highs stack w =
    let root : (load_error (of_heads heads) object_name ≡ None) × (is_interface (of_heads heads) object_name ≡ false) = roots_load heads rooted in
    let few : length (tree.preorder (of_heads heads)) ≤ length (of_heads heads) = few_stand (of_heads heads) (roots_make_hierarchies heads distinct rooted) root.0 root.1 in
    let whole : length (tree.preorder (of_heads heads)) ≡ length (names_at heads order) + length (rest_names heads stack) = ap length w.whole ∙ length-append (names_at heads order) (rest_names heads stack) in
    let all : length (of_heads heads) ≡ length heads = length_of_images head_shape heads in
    let met : length (names_at heads order) ≡ length order = length_of_images (name_at heads) order in
    omega arith

-- what a class that is entered begins with
entered_part : (heads : List ClassHead) → AreDistinct heads → IsRooted heads → (c : ℕ) → IsClassAt heads c → (ns : List ℕ)
    → names_at heads ns ≡ tree.children (of_heads heads) (name_at heads c) → below heads (name_at heads c) ≡ name_at heads c ∷ parts heads ns
entered_part heads distinct rooted c k ns e =
    preorder_unrolls (of_heads heads) (roots_make_hierarchies heads distinct rooted) (name_at heads c) k.loads (is_class heads distinct c k) ∙ ap (λ l. name_at heads c ∷ flat_map (below heads) l) (sym e)

-- before a class is entered, fewer than the types were met
pub few_before : (heads : List ClassHead) → AreDistinct heads → IsRooted heads → (order lows highs : List ℕ) (c : ℕ) (stack : List Visit) → IsWalk heads order lows highs (Enter c ∷ stack)
    → length order < length heads
few_before heads distinct rooted order lows highs c stack w =
    let few : length order + length (rest_names heads (Enter c ∷ stack)) ≤ length heads = few_met heads distinct rooted order lows highs (Enter c ∷ stack) w in
    let unrolled : below heads (name_at heads c) ≡ name_at heads c ∷ flat_map (below heads) (tree.children (of_heads heads) (name_at heads c)) =
    preorder_unrolls (of_heads heads) (roots_make_hierarchies heads distinct rooted) (name_at heads c) w.visits.0.loads (is_class heads distinct c w.visits.0) in
    let some : length (below heads (name_at heads c) ++ rest_names heads stack) ≡ length (below heads (name_at heads c)) + length (rest_names heads stack) = length-append (below heads (name_at heads c)) (rest_names heads stack) in
    let one : length (below heads (name_at heads c)) ≡ suc (length (flat_map (below heads) (tree.children (of_heads heads) (name_at heads c)))) = ap length unrolled in
    omega arith

-- ---- a class is entered

abbrev among : Named → List Named → Bool
among name names = list_any (bytes_eq name) names

or_nothing : (b c : Bool) → c ≡ false → (b || (c || false)) ≡ b
or_nothing true c e = refl
or_nothing false c e = ap (λ d. d || false) e

or_it : (b c : Bool) → c ≡ true → (b || (c || false)) ≡ true
or_it true c e = refl
or_it false c e = ap (λ d. d || false) e

-- what is known where a class is entered
record IsEntered (heads : List ClassHead) (order : List ℕ) (c : ℕ) (stack : List Visit) (ns : List ℕ) : Type 0 where
  class : IsClassAt heads c
  part : below heads (name_at heads c) ≡ name_at heads c ∷ parts heads ns
  whole : tree.preorder (of_heads heads) ≡ names_at heads order ++ name_at heads c ∷ (parts heads ns ++ rest_names heads stack)
  low : tree.low (of_heads heads) (name_at heads c) ≡ suc (length order)

is_entered : (heads : List ClassHead) → AreDistinct heads → IsRooted heads → (order lows highs : List ℕ) (c : ℕ) (stack : List Visit) → IsWalk heads order lows highs (Enter c ∷ stack) → (ns : List ℕ)
    → names_at heads ns ≡ tree.children (of_heads heads) (name_at heads c) → IsEntered heads order c stack ns
is_entered heads distinct rooted order lows highs c stack w ns e =
    let part : below heads (name_at heads c) ≡ name_at heads c ∷ parts heads ns = entered_part heads distinct rooted c w.visits.0 ns e in
    let whole : tree.preorder (of_heads heads) ≡ names_at heads order ++ name_at heads c ∷ (parts heads ns ++ rest_names heads stack) = w.whole ∙ ap (λ l. names_at heads order ++ (l ++ rest_names heads stack)) part in
    record {
      class = w.visits.0;
      part = part;
      whole = whole;
      low =
          low_behind (of_heads heads) (roots_make_hierarchies heads distinct rooted) (names_at heads order) (parts heads ns ++ rest_names heads stack) (name_at heads c) whole
          ∙ ap suc (length_of_images (name_at heads) order);
    }

entered_low : (heads : List ClassHead) → AreDistinct heads → (order lows after : List ℕ) (c : ℕ) → c < length heads → tree.low (of_heads heads) (name_at heads c) ≡ suc (length order)
    → ((k : ℕ) → k < length heads → slice_index_or lows k 0 ≡ cond (among (name_at heads k) (names_at heads order)) (tree.low (of_heads heads) (name_at heads k)) 0)
    → IsNoted lows c (length order) after → (k : ℕ) → k < length heads
    → slice_index_or after k 0 ≡ cond (among (name_at heads k) (names_at heads (order ++ c ∷ []))) (tree.low (of_heads heads) (name_at heads k)) 0
entered_low heads distinct order lows after c few at low noted k within =
    let behind : among (name_at heads k) (names_at heads (order ++ c ∷ [])) ≡ (among (name_at heads k) (names_at heads order) || (bytes_eq (name_at heads k) (name_at heads c) || false)) =
    ap (among (name_at heads k)) (names_behind heads order c) ∙ any_behind (bytes_eq (name_at heads k)) (names_at heads order) (name_at heads c ∷ []) in
    let test : bytes_eq (name_at heads k) (name_at heads c) ≡ c == k = same_number heads distinct k c within few in
    elim (cases_eq k c) [
      | inl same ↦
          let met : among (name_at heads k) (names_at heads (order ++ c ∷ [])) ≡ true =
          behind ∙ or_it (among (name_at heads k) (names_at heads order)) (bytes_eq (name_at heads k) (name_at heads c)) (test ∙ eq-eqb c k (sym same)) in
          ap (λ j. slice_index_or after j 0) same
          ∙ (noted.1 ∙ (sym at ∙ (sym (ap (λ j. tree.low (of_heads heads) (name_at heads j)) same) ∙ sym (ap (λ b. cond b (tree.low (of_heads heads) (name_at heads k)) 0) met))))
      | inr other ↦
          let unmet : among (name_at heads k) (names_at heads (order ++ c ∷ [])) ≡ among (name_at heads k) (names_at heads order) =
          behind ∙ or_nothing (among (name_at heads k) (names_at heads order)) (bytes_eq (name_at heads k) (name_at heads c)) (test ∙ ne_eqb c k (λ e. other (sym e))) in
          noted.2 k other ∙ (low k within ∙ sym (ap (λ b. cond b (tree.low (of_heads heads) (name_at heads k)) 0) unmet))
    ]

-- the walk after a class was entered
pub entered : (heads : List ClassHead) → AreDistinct heads → IsRooted heads → (order lows highs after : List ℕ) (c : ℕ) (stack new : List Visit) → IsWalk heads order lows highs (Enter c ∷ stack)
    → IsNoted lows c (length order) after → HasChildrenFrom heads 0 c (Leave c ∷ stack) new → IsWalk heads (order ++ c ∷ []) after highs new
entered heads distinct rooted order lows highs after c stack new w noted h =
    let ns : List ℕ = h.numbers in
    let e : IsEntered heads order c stack ns = is_entered heads distinct rooted order lows highs c stack w ns h.names in
    let W : List Visit → Type 0 = λ s. IsWalk heads (order ++ c ∷ []) after highs s in
    let rest : rest_names heads (map Enter ns ++ Leave c ∷ stack) ≡ parts heads ns ++ rest_names heads stack = rest_enters heads ns (Leave c ∷ stack) in
    let count : length (order ++ c ∷ []) ≡ length order + 1 = length-append order (c ∷ []) in
    let part : length (below heads (name_at heads c)) ≡ suc (length (parts heads ns)) = ap length e.part in
    let high : tree.high (of_heads heads) (name_at heads c) ≡ tree.low (of_heads heads) (name_at heads c) + length (below heads (name_at heads c)) = high_is heads distinct c e.class in
    let low : tree.low (of_heads heads) (name_at heads c) ≡ suc (length order) = e.low in
    let closed : length order + length (below heads (name_at heads c)) ≡ length (order ++ c ∷ []) + length (parts heads ns) = omega arith in
    subst W (sym h.stack)
    (record {
      whole =
          e.whole
          ∙ (sym (append_assoc (names_at heads order) (name_at heads c ∷ []) (parts heads ns ++ rest_names heads stack))
          ∙ (ap (λ l. l ++ (parts heads ns ++ rest_names heads stack)) (sym (names_behind heads order c)) ∙ ap (λ l. names_at heads (order ++ c ∷ []) ++ l) (sym rest)));
      classes = classes_behind heads order c w.classes e.class;
      low_count = noted.0 ∙ w.low_count;
      high_count = w.high_count;
      low = entered_low heads distinct order lows after c e.class.within e.low w.low noted;
      closes =
          closes_enters heads ns (length (order ++ c ∷ [])) (Leave c ∷ stack)
          (omega arith, subst (λ (n : ℕ). Closes heads n stack) closed w.closes);
      high =
          λ k within left some.
          let parts_of_or : (c == k ≡ false) × (leaves k stack ≡ false) = or_parts (c == k) (leaves k stack) (sym (leaves_enters k ns (Leave c ∷ stack)) ∙ left) in
          let other : k ≡ c → ⊥ = λ same. let wrong_way : true ≡ false = sym (eq-eqb c k (sym same)) ∙ parts_of_or.0 in cc in
          w.high k within parts_of_or.1 (λ z. some (noted.2 k other ∙ z));
      visits = visits_enters heads ns (Leave c ∷ stack) h.classes (e.class.within, w.visits.1);
    })

pub entered_work : (heads : List ClassHead) → AreDistinct heads → IsRooted heads → (order lows highs : List ℕ) (c : ℕ) (stack new : List Visit) → IsWalk heads order lows highs (Enter c ∷ stack)
    → HasChildrenFrom heads 0 c (Leave c ∷ stack) new → work heads new < work heads (Enter c ∷ stack)
entered_work heads distinct rooted order lows highs c stack new w h =
    let ns : List ℕ = h.numbers in
    let e : IsEntered heads order c stack ns = is_entered heads distinct rooted order lows highs c stack w ns h.names in
    let rest : rest_names heads new ≡ parts heads ns ++ rest_names heads stack = ap (rest_names heads) h.stack ∙ rest_enters heads ns (Leave c ∷ stack) in
    let after : length (rest_names heads new) ≡ length (parts heads ns) + length (rest_names heads stack) = ap length rest ∙ length-append (parts heads ns) (rest_names heads stack) in
    let before : length (rest_names heads (Enter c ∷ stack)) ≡ length (below heads (name_at heads c)) + length (rest_names heads stack) = length-append (below heads (name_at heads c)) (rest_names heads stack) in
    let part : length (below heads (name_at heads c)) ≡ suc (length (parts heads ns)) = ap length e.part in
    let left : leave_count new ≡ 1 + leave_count stack = ap leave_count h.stack ∙ (count_enters ns (Leave c ∷ stack) ∙ count_leave c stack) in
    let was : leave_count (Enter c ∷ stack) ≡ 0 + leave_count stack = count_enter c stack in
    omega arith

-- ---- a class is left

pub left : (heads : List ClassHead) (order lows highs after : List ℕ) (c : ℕ) (stack : List Visit) → IsWalk heads order lows highs (Leave c ∷ stack) → IsNoted highs c (length order) after
    → IsWalk heads order lows after stack
left heads order lows highs after c stack w noted =
    record {
      whole = w.whole;
      classes = w.classes;
      low_count = w.low_count;
      high_count = noted.0 ∙ w.high_count;
      low = w.low;
      closes = w.closes.1;
      high =
          λ k within gone some. elim (cases_eq k c) [
            | inl same ↦ ap (λ j. slice_index_or after j 0) same ∙ (noted.1 ∙ (sym w.closes.0 ∙ sym (ap (λ j. tree.high (of_heads heads) (name_at heads j)) same)))
            | inr other ↦ noted.2 k other ∙ w.high k within (ap (λ b. b || leaves k stack) (ne_eqb c k (λ e. other (sym e))) ∙ gone) some
          ];
      visits = w.visits.1;
    }

pub left_work : (heads : List ClassHead) (c : ℕ) (stack : List Visit) → work heads stack < work heads (Leave c ∷ stack)
left_work heads c stack = let was : leave_count (Leave c ∷ stack) ≡ 1 + leave_count stack = count_leave c stack in omega arith

-- ---- the first step and the end

pub root_class : (heads : List ClassHead) → IsRooted heads → IsClassAt heads 0
root_class heads r =
    let there : slice_get heads 0 ≡ Some r.top = ap (λ l. slice_get l 0) r.first in
    let root : (load_error (of_heads heads) object_name ≡ None) × (is_interface (of_heads heads) object_name ≡ false) = roots_load heads r in
    record { within = slice_get_within heads 0 r.top there; loads = ap (load_error (of_heads heads)) (name_is heads 0 r.top there ∙ r.named) ∙ root.0; class = kind_is heads 0 r.top there ∙ r.class }

pub root_name : (heads : List ClassHead) → IsRooted heads → name_at heads 0 ≡ object_name
root_name heads r = name_is heads 0 r.top (ap (λ l. slice_get l 0) r.first) ∙ r.named

pub started : (heads : List ClassHead) → IsRooted heads → (lows highs : List ℕ) → AreNoNumbers (length heads) lows → length highs ≡ length heads → IsWalk heads [] lows highs (Enter 0 ∷ [])
started heads r lows highs none count =
    record {
      whole = ap (below heads) (sym (root_name heads r)) ∙ sym (append-nil (below heads (name_at heads 0)));
      classes = tt;
      low_count = none.0;
      high_count = count;
      low = λ k within. none.1 k;
      closes = tt;
      high = λ k within gone some. absurd (some (none.1 k));
      visits = (root_class heads r, tt);
    }

no_low : (heads : List ClassHead) (name : Named) → among name (tree.preorder (of_heads heads)) ≡ false → tree.low (of_heads heads) name ≡ 0
no_low heads name h =
    let names : List Named = tree.preorder (of_heads heads) in
    let at : position_or_len (bytes_eq name) names ≡ length names = none_passes (bytes_eq name) names h in
    let many : length names ≤ position_or_len (bytes_eq name) names = omega arith in
    ap (λ b. tree.number_behind (cond b (Some (position_or_len (bytes_eq name) names)) None)) (le-ltb (position_or_len (bytes_eq name) names) (length names) many)

pub ended : (heads : List ClassHead) → AreDistinct heads → IsRooted heads → (order lows highs : List ℕ) → IsWalk heads order lows highs [] → IsTree heads order lows highs
ended heads distinct rooted order lows highs w =
    let whole : names_at heads order ≡ tree.preorder (of_heads heads) = sym (w.whole ∙ append-nil (names_at heads order)) in
    let low : (k : ℕ) → k < length heads → slice_index_or lows k 0 ≡ tree.low (of_heads heads) (name_at heads k) =
    λ k within. w.low k within ∙ (ap (λ l. cond (among (name_at heads k) l) (tree.low (of_heads heads) (name_at heads k)) 0) whole
    ∙ elim (cases_Bool (among (name_at heads k) (tree.preorder (of_heads heads)))) [
      | inl met ↦ ap (λ b. cond b (tree.low (of_heads heads) (name_at heads k)) 0) met
      | inr unmet ↦ ap (λ b. cond b (tree.low (of_heads heads) (name_at heads k)) 0) unmet ∙ sym (no_low heads (name_at heads k) unmet)
    ]) in
    record {
      whole = whole;
      classes = w.classes;
      low_count = w.low_count;
      high_count = w.high_count;
      low = low;
      high =
          λ k c. w.high k c.within refl
          (λ z. let s : (i : ℕ) × (slice_get (tree.preorder (of_heads heads)) i ≡ Some (name_at heads k)) × (tree.low (of_heads heads) (name_at heads k) ≡ suc i) =
          classes_stand (of_heads heads) (roots_make_hierarchies heads distinct rooted) (name_at heads k) c.loads (is_class heads distinct k c) in
          let e : tree.low (of_heads heads) (name_at heads k) ≡ 0 = sym (low k c.within) ∙ z in
          let f : tree.low (of_heads heads) (name_at heads k) ≡ suc s.0 = s.2 in
          omega arith);
    }
