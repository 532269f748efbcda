-- Loading, and what a type implements, by the parts of a type: its superclass and its superinterfaces as numbers.
use Rattle.std.proofs.Common.{◌≡◌, ◌<◌, ◌==◌, ◌&&◌, ◌||◌, ℕ, zero, suc, Bool, true, false, not, List, [], ◌∷◌, ◌++◌, map, length, take, slice_get, Option, None, Some, refl, sym, ◌∙◌, ap, arith, inl, inr}
use Rattle.std.proofs.lemmas.Bool.{cases_Bool, cases_eq, eq-eqb, ne_eqb}
use Rattle.std.proofs.lemmas.Option.{slice_get_within}
use Rattle.std.specs.List.{list_any}
use Rattle.std.specs.Option.{option_or, option_map_or, option_to_list}
use Rattle.std.specs.Str.{bytes_eq}
use Rattle.bcj_symbolic_trees.specs.declared.class_tree.ClassHead.{ClassHead}
use Rattle.bcj_hier_rules.specs.declared.link_error.LinkError.{LinkError}
use Rattle.bcj_hier_rules.specs.declared.link_error.LinkError.TheVariants as error
use Rattle.bcj_hier_rules.specs.Shapes.{Named, Shape, Mixture, found}
use Rattle.bcj_hier_rules.specs.Heads.{of_heads, head_shape, number_of, AreDistinct}
use Rattle.bcj_hier_rules.specs.Loading.{is_interface, error_where, superclass_error, interfaces_error, head_error, load_error, implements_within, implements}
use Rattle.bcj_hier_rules.specs.Resolution.{same_bool}
use Rattle.bcj_hier_soundness.specs.Laws.{StandsAt}
use Rattle.bcj_hier_soundness.specs.Laws as law
use Rattle.bcj_hier_soundness.proofs.Names.{same_bytes, bytes_same}
use Rattle.bcj_hier_soundness.proofs.Loads.{or_none}
use Rattle.bcj_hier_soundness.proofs.Distinct.{names_have_numbers, numbers_stand, heads_are_found, none_is_missed}
use Rattle.bcj_hier_soundness.proofs.Free.{loads_by_parts, circles_fail}
use Rattle.bcj_hier_soundness.proofs.Parts.{implements_by_parts}
use Rattle.bcj_hier.specs.declared.parts.Part.{Part}
use Rattle.bcj_hier.specs.Numbers.{names_of, part_of, parts_of, interface_at, name_at}
use Rattle.bcj_hier.specs.Loads.{loading_error, part_error, parts_error, open_at, IsWaiting, IsStuck, IsSettled}
use Rattle.bcj_hier.proofs.Places.{numbered_is}

-- ---- numbers and names

pub name_is : (heads : List ClassHead) (k : ℕ) (h : ClassHead) → slice_get heads k ≡ Some h → name_at heads k ≡ h.name
name_is heads k h e = ap (λ o. option_map_or (λ (x : ClassHead). x.name) o []) e

pub kind_is : (heads : List ClassHead) (k : ℕ) (h : ClassHead) → slice_get heads k ≡ Some h → interface_at heads k ≡ h.interface
kind_is heads k h e = ap (λ o. option_map_or (λ (x : ClassHead). x.interface) o false) e

pub name_found : (heads : List ClassHead) (name : Named) (k : ℕ) → number_of heads name ≡ Some k → name_at heads k ≡ name
name_found heads name k e = let s : StandsAt heads name k = numbers_stand heads name k e in name_is heads k s.head s.there ∙ s.named

pub kind_found : (heads : List ClassHead) (name : Named) (k : ℕ) → number_of heads name ≡ Some k → interface_at heads k ≡ is_interface (of_heads heads) name
kind_found heads name k e =
    let s : StandsAt heads name k = numbers_stand heads name k e in
    kind_is heads k s.head s.there ∙ sym (ap (λ o. option_map_or (λ (x : Shape). x.head.interface) o false) s.is_it)

pub none_within : {A : Type 0} (xs : List A) (k : ℕ) → k < length xs → slice_get xs k ≡ None → ⊥
none_within [] k few e = omega arith
none_within (x ∷ xs) zero few e = cc
none_within (x ∷ xs) (suc k) few e = none_within xs k (omega arith) e

-- a type by its number, where no name stands twice
pub head_there : (heads : List ClassHead) (k : ℕ) → k < length heads → (h : ClassHead) × (slice_get heads k ≡ Some h)
head_there heads k few = head_by heads k few (slice_get heads k) refl
  where
    head_by : (heads : List ClassHead) (k : ℕ) → k < length heads → (o : Option ClassHead) → slice_get heads k ≡ o → (h : ClassHead) × (slice_get heads k ≡ Some h)
    head_by heads k few (Some h) e = (h, e)
    head_by heads k few None e = absurd (none_within heads k few e)

pub number_at : (heads : List ClassHead) → AreDistinct heads → (k : ℕ) → k < length heads → number_of heads (name_at heads k) ≡ Some k
number_at heads distinct k few =
    let t : (h : ClassHead) × (slice_get heads k ≡ Some h) = head_there heads k few in
    ap (number_of heads) (name_is heads k t.0 t.1) ∙ names_have_numbers heads k t.0 distinct t.1

-- ---- loading

pub missing_error : (heads : List ClassHead) (name : Named) → number_of heads name ≡ None → load_error (of_heads heads) name ≡ Some error.NoClassDefFound
missing_error heads name e =
    loads_by_parts (of_heads heads) name
    ∙ ap (λ o. elim o [ None ↦ Some error.NoClassDefFound | Some s ↦ head_error (of_heads heads) (load_error (of_heads heads)) s ]) ((none_is_missed heads name).0 e)

abbrev wrong : Bool → Bool → Option LinkError
wrong wanted is = error_where (not (same_bool wanted is)) error.IncompatibleClassChange

part_by : (heads : List ClassHead) (w : Bool) (name : Named) (o : Option ℕ) → number_of heads name ≡ o
    → option_or (load_error (of_heads heads) name) (wrong w (is_interface (of_heads heads) name)) ≡ part_error heads (record { place = o; interface = w })
part_by heads w name None e = ap (λ x. option_or x (wrong w (is_interface (of_heads heads) name))) (missing_error heads name e)
part_by heads w name (Some k) e =
    ap (λ n. option_or (load_error (of_heads heads) n) (wrong w (is_interface (of_heads heads) name))) (sym (name_found heads name k e))
    ∙ ap (λ b. option_or (load_error (of_heads heads) (name_at heads k)) (wrong w b)) (sym (kind_found heads name k e))

-- what a part of a type does, by name and by number
pub part_is : (heads : List ClassHead) (w : Bool) (name : Named)
    → option_or (load_error (of_heads heads) name) (wrong w (is_interface (of_heads heads) name)) ≡ part_error heads (part_of (names_of heads) w name)
part_is heads w name = part_by heads w name (number_of heads name) refl ∙ ap (λ o. part_error heads (record { place = o; interface = w })) (sym (numbered_is heads name))

or_or : {A : Type 0} (a b c : Option A) → option_or (option_or a b) c ≡ option_or a (option_or b c)
or_or None b c = refl
or_or (Some x) b c = refl

or_nothing : {A : Type 0} (a : Option A) → option_or a None ≡ a
or_nothing None = refl
or_nothing (Some x) = refl

pub parts_behind : (heads : List ClassHead) (a b : List Part) → parts_error heads (a ++ b) ≡ option_or (parts_error heads a) (parts_error heads b)
parts_behind heads [] b = refl
parts_behind heads (p ∷ a) b = ap (option_or (part_error heads p)) (parts_behind heads a b) ∙ sym (or_or (part_error heads p) (parts_error heads a) (parts_error heads b))

interfaces_are : (heads : List ClassHead) (names : List Named) → interfaces_error (of_heads heads) (load_error (of_heads heads)) names ≡ parts_error heads (map (part_of (names_of heads) true) names)
interfaces_are heads [] = refl
interfaces_are heads (name ∷ rest) =
    ap (λ x. option_or x (interfaces_error (of_heads heads) (load_error (of_heads heads)) rest)) (part_is heads true name)
    ∙ ap (option_or (part_error heads (part_of (names_of heads) true name))) (interfaces_are heads rest)

not_not : (b : Bool) → not (not b) ≡ b
not_not true = refl
not_not false = refl

superclass_is : (heads : List ClassHead) (o : Option Named) → superclass_error (of_heads heads) (load_error (of_heads heads)) o ≡ parts_error heads (map (part_of (names_of heads) false) (option_to_list o))
superclass_is heads None = refl
superclass_is heads (Some name) =
    ap (λ b. option_or (load_error (of_heads heads) name) (error_where b error.IncompatibleClassChange)) (sym (not_not (is_interface (of_heads heads) name)))
    ∙ (part_is heads false name ∙ sym (or_nothing (part_error heads (part_of (names_of heads) false name))))

-- a type loads by its parts
pub load_is : (heads : List ClassHead) (k : ℕ) (h : ClassHead) → AreDistinct heads → slice_get heads k ≡ Some h → loading_error heads k ≡ parts_error heads (parts_of (names_of heads) h)
load_is heads k h distinct e =
    let m : Mixture = of_heads heads in
    ap (load_error m) (name_is heads k h e)
    ∙ (loads_by_parts m h.name
    ∙ (ap (λ o. elim o [ None ↦ Some error.NoClassDefFound | Some s ↦ head_error m (load_error m) s ]) (heads_are_found heads k h distinct e)
    ∙ (ap (λ x. option_or x (interfaces_error m (load_error m) h.interfaces)) (superclass_is heads h.superclass)
    ∙ (ap (option_or (parts_error heads (map (part_of (names_of heads) false) (option_to_list h.superclass)))) (interfaces_are heads h.interfaces)
    ∙ sym (parts_behind heads (map (part_of (names_of heads) false) (option_to_list h.superclass)) (map (part_of (names_of heads) true) h.interfaces))))))

-- ---- circles

-- whether the type of a name is open
abbrev is_waited : List ClassHead → List Bool → Named → Bool
is_waited heads opens c = elim (number_of heads c) [ None ↦ false | Some k ↦ open_at opens k ]

waited : (heads : List ClassHead) (opens : List Bool) (w : Bool) (name : Named) (p : Part) → p ≡ part_of (names_of heads) w name → IsWaiting opens p → is_waited heads opens name ≡ true
waited heads opens w name p e waits =
    let at : number_of heads name ≡ Some waits.place = sym (numbered_is heads name) ∙ (sym (ap (λ (q : Part). q.place) e) ∙ waits.is_there) in
    ap (λ o. elim o [ None ↦ false | Some k ↦ open_at opens k ]) at ∙ waits.not_known

-- superinterfaces, taken apart at one, before which none fails
record Split (heads : List ClassHead) (names : List Named) (p : Part) : Type 0 where
  front : List Named
  back : List Named
  name : Named
  whole : names ≡ front ++ name ∷ back
  passed : interfaces_error (of_heads heads) (load_error (of_heads heads)) front ≡ None
  part : p ≡ part_of (names_of heads) true name

same_some : {A : Type 0} (x y : A) → ◌≡◌ {A = Option A} (Some x) (Some y) → x ≡ y
same_some x y e = cc

split : (heads : List ClassHead) (names : List Named) (at : ℕ) (p : Part) → slice_get (map (part_of (names_of heads) true) names) at ≡ Some p
    → parts_error heads (take at (map (part_of (names_of heads) true) names)) ≡ None → Split heads names p
split heads [] at p e passed = cc
split heads (name ∷ rest) zero p e passed =
    record { front = []; back = rest; name = name; whole = refl; passed = refl; part = sym (same_some (part_of (names_of heads) true name) p e) }
split heads (name ∷ rest) (suc at) p e passed =
    let both : (part_error heads (part_of (names_of heads) true name) ≡ None) × (parts_error heads (take at (map (part_of (names_of heads) true) rest)) ≡ None) = or_none _ _ passed in
    let s : Split heads rest p = split heads rest at p e both.1 in
    record {
      front = name ∷ s.front;
      back = s.back;
      name = s.name;
      whole = ap (λ l. name ∷ l) s.whole;
      passed =
          ap (λ x. option_or x (interfaces_error (of_heads heads) (load_error (of_heads heads)) s.front)) (part_is heads true name ∙ both.0) ∙ s.passed;
      part = s.part;
    }

stuck_by : (heads : List ClassHead) (opens : List Bool) (c : Named) (s : Shape) (o : Option Named) → found (of_heads heads) c ≡ Some s → s.head.superclass ≡ o → (at : ℕ) (p : Part)
    → slice_get (map (part_of (names_of heads) false) (option_to_list o) ++ map (part_of (names_of heads) true) s.head.interfaces) at ≡ Some p
    → parts_error heads (take at (map (part_of (names_of heads) false) (option_to_list o) ++ map (part_of (names_of heads) true) s.head.interfaces)) ≡ None
    → IsWaiting opens p → law.Waits (of_heads heads) (is_waited heads opens) c
stuck_by heads opens c s None f up at p e passed waits =
    let t : Split heads s.head.interfaces p = split heads s.head.interfaces at p e passed in
    law.by_interface t.front t.back t.name f (ap (superclass_error (of_heads heads) (load_error (of_heads heads))) up) t.whole t.passed (waited heads opens true t.name p t.part waits)
stuck_by heads opens c s (Some name) f up zero p e passed waits =
    law.by_superclass f up (waited heads opens false name p (sym (same_some (part_of (names_of heads) false name) p e)) waits)
stuck_by heads opens c s (Some name) f up (suc at) p e passed waits =
    let both : (part_error heads (part_of (names_of heads) false name) ≡ None) × (parts_error heads (take at (map (part_of (names_of heads) true) s.head.interfaces)) ≡ None) = or_none _ _ passed in
    let t : Split heads s.head.interfaces p = split heads s.head.interfaces at p e both.1 in
    let above : superclass_error (of_heads heads) (load_error (of_heads heads)) s.head.superclass ≡ None =
    ap (superclass_error (of_heads heads) (load_error (of_heads heads))) up ∙ (superclass_is heads (Some name) ∙ (or_nothing (part_error heads (part_of (names_of heads) false name)) ∙ both.0)) in
    law.by_interface t.front t.back t.name f above t.whole t.passed (waited heads opens true t.name p t.part waits)

waits_at : (heads : List ClassHead) (opens : List Bool) → ((k : ℕ) → IsSettled heads opens k) → (c : Named) (o : Option ℕ) → number_of heads c ≡ o
    → elim o [ None ↦ false | Some k ↦ open_at opens k ] ≡ true → law.Waits (of_heads heads) (is_waited heads opens) c
waits_at heads opens settled c None e w = cc
waits_at heads opens settled c (Some k) e w =
    let s : StandsAt heads c k = numbers_stand heads c k e in
    let t : IsStuck heads opens (parts_of (names_of heads) s.head) = settled k s.head s.there w in
    stuck_by heads opens c (head_shape s.head) s.head.superclass s.is_it refl t.at t.part t.is_there t.passed t.waits

-- where all that are open are stuck, they stand on or below a circle
pub open_fails : (heads : List ClassHead) (opens : List Bool) → AreDistinct heads → ((k : ℕ) → IsSettled heads opens k) → (k : ℕ) (h : ClassHead) → slice_get heads k ≡ Some h
    → open_at opens k ≡ true → loading_error heads k ≡ Some error.ClassCircularity
open_fails heads opens distinct settled k h e is_open =
    let number : number_of heads h.name ≡ Some k = names_have_numbers heads k h distinct e in
    let w : is_waited heads opens h.name ≡ true = ap (λ o. elim o [ None ↦ false | Some j ↦ open_at opens j ]) number ∙ is_open in
    ap (load_error (of_heads heads)) (name_is heads k h e)
    ∙ circles_fail (of_heads heads) (is_waited heads opens) (λ c u. waits_at heads opens settled c (number_of heads c) refl u) h.name w

-- ---- interfaces

abbrev pub part_implements : List ClassHead → Named → Part → Bool
part_implements heads i p = elim p.place [ None ↦ false | Some k ↦ implements (of_heads heads) (name_at heads k) i ]

implements_by : (heads : List ClassHead) (i : Named) (w : Bool) (name : Named) (o : Option ℕ) → number_of heads name ≡ o → implements (of_heads heads) name i ≡ part_implements heads i (record { place = o; interface = w })
implements_by heads i w name None e =
    let gone : found (of_heads heads) name ≡ None = (none_is_missed heads name).0 e in
    ap (λ o. elim o [
      | None ↦ false
      | Some s ↦ s.head.interface && bytes_eq name i
          || (option_map_or (λ p. implements_within (of_heads heads) (length (of_heads heads)) p i) s.head.superclass false || list_any (λ p. implements_within (of_heads heads) (length (of_heads heads)) p i) s.head.interfaces)
    ]) gone
implements_by heads i w name (Some k) e = ap (λ n. implements (of_heads heads) n i) (sym (name_found heads name k e))

implement_is : (heads : List ClassHead) (i : Named) (w : Bool) (name : Named) → implements (of_heads heads) name i ≡ part_implements heads i (part_of (names_of heads) w name)
implement_is heads i w name = implements_by heads i w name (number_of heads name) refl ∙ ap (λ o. part_implements heads i (record { place = o; interface = w })) (sym (numbered_is heads name))

or_again : (a b c : Bool) → (a || (b || c)) ≡ (a || b || c)
or_again true b c = refl
or_again false b c = refl

or_none_true : (a : Bool) → (a || false) ≡ a
or_none_true true = refl
or_none_true false = refl

pub any_behind : {A : Type 0} (f : A → Bool) (xs ys : List A) → list_any f (xs ++ ys) ≡ (list_any f xs || list_any f ys)
any_behind f [] ys = refl
any_behind f (x ∷ xs) ys = ap (λ b. f x || b) (any_behind f xs ys) ∙ or_again (f x) (list_any f xs) (list_any f ys)

any_of_names : (heads : List ClassHead) (i : Named) (names : List Named) → list_any (λ p. implements (of_heads heads) p i) names ≡ list_any (part_implements heads i) (map (part_of (names_of heads) true) names)
any_of_names heads i [] = refl
any_of_names heads i (name ∷ rest) =
    ap (λ b. b || list_any (λ p. implements (of_heads heads) p i) rest) (implement_is heads i true name) ∙ ap (λ b. part_implements heads i (part_of (names_of heads) true name) || b) (any_of_names heads i rest)

any_of_option : (heads : List ClassHead) (i : Named) (o : Option Named) → option_map_or (λ p. implements (of_heads heads) p i) o false ≡ list_any (part_implements heads i) (map (part_of (names_of heads) false) (option_to_list o))
any_of_option heads i None = refl
any_of_option heads i (Some name) = implement_is heads i false name ∙ sym (or_none_true (part_implements heads i (part_of (names_of heads) false name)))

-- names are the same where numbers are
pub same_number : (heads : List ClassHead) → AreDistinct heads → (k j : ℕ) → k < length heads → j < length heads → bytes_eq (name_at heads k) (name_at heads j) ≡ j == k
same_number heads distinct k j few less =
    elim (cases_eq j k) [
      | inl same ↦ ap (λ i. bytes_eq (name_at heads k) (name_at heads i)) same ∙ (bytes_same (name_at heads k) ∙ sym (eq-eqb j k same))
      | inr other ↦
          elim (cases_Bool (bytes_eq (name_at heads k) (name_at heads j))) [
            | inl alike ↦
                let names : name_at heads k ≡ name_at heads j = same_bytes (name_at heads k) (name_at heads j) alike in
                let numbers : Some k ≡ Some j = sym (number_at heads distinct k few) ∙ (ap (number_of heads) names ∙ number_at heads distinct j less) in
                absurd (other (sym (same_some k j numbers)))
            | inr apart ↦ apart ∙ sym (ne_eqb j k other)
          ]
    ]

-- what a type implements, by what its parts do
pub implements_at : (heads : List ClassHead) (k i : ℕ) (h : ClassHead) → AreDistinct heads → slice_get heads k ≡ Some h → i < length heads
    → implements (of_heads heads) (name_at heads k) (name_at heads i) ≡ (h.interface && i == k || list_any (part_implements heads (name_at heads i)) (parts_of (names_of heads) h))
implements_at heads k i h distinct there few =
    let m : Mixture = of_heads heads in
    let n : Named = name_at heads i in
    let is_it : found m (name_at heads k) ≡ Some (head_shape h) = ap (found m) (name_is heads k h there) ∙ heads_are_found heads k h distinct there in
    let first : List Part = map (part_of (names_of heads) false) (option_to_list h.superclass) in
    implements_by_parts m (name_at heads k) n (head_shape h) is_it
    ∙ (ap (λ b. h.interface && b || (option_map_or (λ p. implements m p n) h.superclass false || list_any (λ p. implements m p n) h.interfaces)) (same_number heads distinct k i (slice_get_within heads k h there) few)
    ∙ (ap (λ b. h.interface && i == k || (b || list_any (λ p. implements m p n) h.interfaces)) (any_of_option heads n h.superclass)
    ∙ (ap (λ b. h.interface && i == k || (list_any (part_implements heads n) first || b)) (any_of_names heads n h.interfaces)
    ∙ sym (ap (λ b. h.interface && i == k || b) (any_behind (part_implements heads n) first (map (part_of (names_of heads) true) h.interfaces))))))
