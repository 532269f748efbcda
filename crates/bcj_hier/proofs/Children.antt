-- The children of a class by their numbers.
use Rattle.std.proofs.Common.{◌≡◌, ◌<◌, ◌≤◌, ◌-◌, ◌==◌, ◌&&◌, ℕ, zero, suc, Bool, true, false, not, cond, List, [], ◌∷◌, ◌++◌, map, filter, length, drop, slice_get, is_none, Option, None, Some, refl, sym, ◌∙◌, ap, subst, arith, inl, inr}
use Rattle.std.proofs.lemmas.Bool.{cases_Bool, and_parts, not-true}
use Rattle.std.proofs.lemmas.Option.{slice_get-map, slice_get_within}
use Rattle.std.specs.Option.{option_map, option_map_or, option_to_list}
use Rattle.std.specs.Str.{bytes_eq}
use Rattle.bcj_symbolic_trees.specs.declared.class_tree.ClassHead.{ClassHead}
use Rattle.bcj_hier_rules.specs.declared.link_error.LinkError.{LinkError}
use Rattle.bcj_hier_rules.specs.Shapes.{Named, Shape}
use Rattle.bcj_hier_rules.specs.Heads.{of_heads, head_shape, number_of, AreDistinct}
use Rattle.bcj_hier_rules.specs.Loading.{load_error}
use Rattle.bcj_hier_rules.specs.Trees.{loads, is_child}
use Rattle.bcj_hier_soundness.specs.Laws.{StandsAt}
use Rattle.bcj_hier_soundness.proofs.Names.{same_bytes}
use Rattle.bcj_hier_soundness.proofs.Distinct.{numbers_stand}
use Rattle.bcj_hier.specs.declared.parts.Part.{Part}
use Rattle.bcj_hier.specs.declared.visits.Visit.{Visit}
use Rattle.bcj_hier.specs.declared.visits.Visit.TheVariants.{Enter}
use Rattle.bcj_hier.specs.Numbers.{names_of, part_of, parts_of, name_at, all_parts, parts_at, superclass_place}
use Rattle.bcj_hier.specs.Walks.{is_child_by, AreErrors, names_at, IsClassAt, HasChildrenFrom, error_at, is_child_at}
use Rattle.bcj_hier.proofs.Places.{numbered_is, length_of_images}
use Rattle.bcj_hier.proofs.ByParts.{name_is, kind_is, name_found, head_there, number_at, same_number}
use Rattle.bcj_hier.proofs.Sound.{parts_there}

pub no_superclass : (heads : List ClassHead) (interfaces : List Named) → superclass_place (map (part_of (names_of heads) true) interfaces) ≡ None
no_superclass heads [] = refl
no_superclass heads (i ∷ rest) = refl

number_within : (heads : List ClassHead) (name : Named) (k : ℕ) → number_of heads name ≡ Some k → k < length heads
number_within heads name k e = let s : StandsAt heads name k = numbers_stand heads name k e in slice_get_within heads k s.head s.there

place_by : (heads : List ClassHead) → AreDistinct heads → (parent : ℕ) → parent < length heads → (name : Named) → (o : Option ℕ) → number_of heads name ≡ o
    → option_map_or (λ p. p == parent) o false ≡ bytes_eq (name_at heads parent) name
place_by heads distinct parent few name None e =
    elim (cases_Bool (bytes_eq (name_at heads parent) name)) [
      | inl same ↦
          let there : Some parent ≡ None = sym (number_at heads distinct parent few) ∙ (ap (number_of heads) (same_bytes (name_at heads parent) name same) ∙ e) in
          absurd (cc)
      | inr other ↦ sym other
    ]
place_by heads distinct parent few name (Some j) e =
    sym (same_number heads distinct parent j few (number_within heads name j e)) ∙ ap (bytes_eq (name_at heads parent)) (name_found heads name j e)

superclass_by : (heads : List ClassHead) → AreDistinct heads → (parent : ℕ) → parent < length heads → (interfaces : List Named) (o : Option Named)
    → option_map_or (λ p. p == parent) (superclass_place (map (part_of (names_of heads) false) (option_to_list o) ++ map (part_of (names_of heads) true) interfaces)) false ≡ option_map_or (bytes_eq (name_at heads parent)) o false
superclass_by heads distinct parent few interfaces None = ap (λ o. option_map_or (λ p. p == parent) o false) (no_superclass heads interfaces)
superclass_by heads distinct parent few interfaces (Some name) =
    ap (λ o. option_map_or (λ p. p == parent) o false) (numbered_is heads name) ∙ place_by heads distinct parent few name (number_of heads name) refl

-- a child is told by numbers
pub child_is : (heads : List ClassHead) (parts : List (List Part)) (errors : List (Option LinkError)) (parent k : ℕ) (h : ClassHead) → AreDistinct heads → parts ≡ all_parts heads → AreErrors heads errors
    → parent < length heads → slice_get heads k ≡ Some h → is_child_at heads parts errors parent k ≡ is_child (of_heads heads) (name_at heads parent) (head_shape h)
child_is heads parts errors parent k h distinct all known few there =
    let within : k < length heads = slice_get_within heads k h there in
    let error : error_at errors k ≡ load_error (of_heads heads) h.name = ap (λ o. elim o [ None ↦ None | Some e ↦ e ]) (known k within) ∙ ap (load_error (of_heads heads)) (name_is heads k h there) in
    let own : parts_at parts k ≡ parts_of (names_of heads) h = ap (λ ps. parts_at ps k) all ∙ parts_there heads k h there in
    ap (λ o. elim o [ None ↦ false | Some g ↦ is_child_by g.interface (error_at errors k) (superclass_place (parts_at parts k)) parent ]) there
    ∙ (ap (λ e. is_child_by h.interface e (superclass_place (parts_at parts k)) parent) error
    ∙ (ap (λ ps. is_child_by h.interface (load_error (of_heads heads) h.name) (superclass_place ps) parent) own
    ∙ ap (λ b. not h.interface && (is_none (load_error (of_heads heads) h.name) && b)) (superclass_by heads distinct parent few h.interfaces h.superclass)))

-- ---- children from a number on

drop_at : {A : Type 0} (xs : List A) (k : ℕ) (x : A) → slice_get xs k ≡ Some x → drop k xs ≡ x ∷ drop (suc k) xs
drop_at [] k x e = cc
drop_at (y ∷ ys) zero x e = let same : y ≡ x = cc in ap (λ z. z ∷ ys) same
drop_at (y ∷ ys) (suc k) x e = drop_at ys k x e

drop_all : {A : Type 0} (xs : List A) (n : ℕ) → length xs ≤ n → drop n xs ≡ []
drop_all [] zero h = refl
drop_all [] (suc n) h = refl
drop_all (x ∷ xs) zero h = absurd (omega arith)
drop_all (x ∷ xs) (suc n) h = drop_all xs n (omega arith)

abbrev named : List Shape → List Named
named = map (λ s. s.head.name)

-- behind the last type there are none
pub children_none : (heads : List ClassHead) (parent : ℕ) (old : List Visit) → HasChildrenFrom heads (length heads) parent old old
children_none heads parent old =
    let none : drop (length heads) (of_heads heads) ≡ [] = drop_all (of_heads heads) (length heads) (let e : length (of_heads heads) ≡ length heads = length_of_images head_shape heads in omega arith) in
    record { numbers = []; stack = refl; names = sym (ap (λ l. named (filter (is_child (of_heads heads) (name_at heads parent)) l)) none); classes = tt }

none_error : (o : Option LinkError) → is_none o ≡ true → o ≡ None
none_error None h = refl
none_error (Some e) h = cc

child_class : (heads : List ClassHead) (parent k : ℕ) (h : ClassHead) → slice_get heads k ≡ Some h → is_child (of_heads heads) (name_at heads parent) (head_shape h) ≡ true → IsClassAt heads k
child_class heads parent k h there it =
    let parts : (not h.interface ≡ true) × ((loads (of_heads heads) h.name && option_map_or (bytes_eq (name_at heads parent)) h.superclass false) ≡ true) = and_parts _ _ it in
    let more : (loads (of_heads heads) h.name ≡ true) × (option_map_or (bytes_eq (name_at heads parent)) h.superclass false ≡ true) = and_parts _ _ parts.1 in
    record {
      within = slice_get_within heads k h there;
      loads = ap (load_error (of_heads heads)) (name_is heads k h there) ∙ none_error (load_error (of_heads heads) h.name) more.0;
      class = kind_is heads k h there ∙ not-true h.interface parts.0;
    }

-- one type more, in front
pub children_more : (heads : List ClassHead) (parent k : ℕ) (h : ClassHead) (old stack : List Visit) (b : Bool) → slice_get heads k ≡ Some h
    → b ≡ is_child (of_heads heads) (name_at heads parent) (head_shape h) → HasChildrenFrom heads (suc k) parent old stack → HasChildrenFrom heads k parent old (cond b (Enter k ∷ stack) stack)
children_more heads parent k h old stack b there e c =
    let test : Shape → Bool = is_child (of_heads heads) (name_at heads parent) in
    let behind : List Shape = drop (suc k) (of_heads heads) in
    let shape : slice_get (of_heads heads) k ≡ Some (head_shape h) = slice_get-map head_shape heads k ∙ ap (option_map head_shape) there in
    let whole : filter test (drop k (of_heads heads)) ≡ cond b (head_shape h ∷ filter test behind) (filter test behind) =
    ap (filter test) (drop_at (of_heads heads) k (head_shape h) shape) ∙ ap (λ t. cond t (head_shape h ∷ filter test behind) (filter test behind)) (sym e) in
    by_test b whole (λ it. child_class heads parent k h there (sym e ∙ it))
  where
    by_test : (b : Bool) → filter (is_child (of_heads heads) (name_at heads parent)) (drop k (of_heads heads))
        ≡ cond b (head_shape h ∷ filter (is_child (of_heads heads) (name_at heads parent)) (drop (suc k) (of_heads heads))) (filter (is_child (of_heads heads) (name_at heads parent)) (drop (suc k) (of_heads heads)))
        → (b ≡ true → IsClassAt heads k) → HasChildrenFrom heads k parent old (cond b (Enter k ∷ stack) stack)
    by_test true whole class =
        record {
          numbers = k ∷ c.numbers;
          stack = ap (λ l. Enter k ∷ l) c.stack;
          names = ap (λ n. n ∷ names_at heads c.numbers) (name_is heads k h there) ∙ (ap (λ l. h.name ∷ l) c.names ∙ sym (ap named whole));
          classes = (class refl, c.classes);
        }
    by_test false whole class = record { numbers = c.numbers; stack = c.stack; names = c.names ∙ sym (ap named whole); classes = c.classes }

-- one step of the loop over the types, from the last to the first
pub children_step : (heads : List ClassHead) (parts : List (List Part)) (errors : List (Option LinkError)) (parent number : ℕ) (old stack : List Visit) → AreDistinct heads → parts ≡ all_parts heads
    → AreErrors heads errors → parent < length heads → 0 < number → number ≤ length heads → HasChildrenFrom heads number parent old stack → (b : Bool)
    → b ≡ is_child_at heads parts errors parent (number - 1) → HasChildrenFrom heads (number - 1) parent old (cond b (Enter (number - 1) ∷ stack) stack)
children_step heads parts errors parent number old stack distinct all known few some within c b e =
    let k : ℕ = number - 1 in
    let below : k < length heads = omega arith in
    let next : number ≡ suc k = omega arith in
    let t : (h : ClassHead) × (slice_get heads k ≡ Some h) = head_there heads k below in
    children_more heads parent k t.0 old stack b t.1 (e ∙ child_is heads parts errors parent k t.0 distinct all known few t.1)
    (subst (λ (n : ℕ). HasChildrenFrom heads n parent old stack) next c)
