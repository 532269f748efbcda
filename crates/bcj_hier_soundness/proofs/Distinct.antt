-- Lists of heads: the number of a name, and hierarchies of the heads alone.
use Rattle.std.proofs.Common.{◌≡◌, ◌+◌, nat_lt, List, [], ◌∷◌, ◌++◌, position, slice_get, Option, Some, None, Bool, true, false, not, cond, ◌||◌, refl, sym, ◌∙◌, ap, subst, ℕ, zero, suc, length, inl, inr, is_none, arith}
use Rattle.std.proofs.lemmas.Bool.{cases_Bool, cases_lt, and_parts, lt-ltb, le-ltb}
use Rattle.std.proofs.lemmas.List.{map-append}
use Rattle.std.specs.List.{list_all, position_or_len}
use Rattle.std.specs.Option.{option_map}
use Rattle.std.specs.Str.{bytes_eq}
use Rattle.bcj_symbolic_trees.specs.declared.class_tree.ClassHead.{ClassHead}
use Rattle.bcj_symbolic_trees.specs.Names.{object_name}
use Rattle.bcj_hier_rules.specs.Shapes.{Named, Shape, found}
use Rattle.bcj_hier_rules.specs.Resolution.{same_bool}
use Rattle.bcj_hier_rules.specs.Heads.{head_shape, of_heads, heads_of, is_called, number_of, AreDistinct, is_placed}
use Rattle.bcj_hier_soundness.specs.Laws as law
use Rattle.bcj_hier_soundness.proofs.Names.{same_bytes, bytes_same, found_name}
use Rattle.bcj_hier_soundness.proofs.Heads.{heads_find}

-- ---- numbers

abbrev place_by : Bool → ℕ → Option ℕ
place_by b k = cond b (Some k) None

later_by : (b : Bool) (k : ℕ) → place_by b (suc k) ≡ option_map suc (place_by b k)
later_by true k = refl
later_by false k = refl

later_less : (k n : ℕ) → nat_lt (1 + k) (suc n) ≡ nat_lt k n
later_less k n =
    elim (cases_lt k n) [
      | inl less ↦ lt-ltb (1 + k) (suc n) (omega arith) ∙ sym (lt-ltb k n less)
      | inr more ↦ le-ltb (1 + k) (suc n) (omega arith) ∙ sym (le-ltb k n more)
    ]

position_by : (b : Bool) (k n : ℕ) → place_by (nat_lt (cond (not b) (1 + k) 0) (suc n)) (cond (not b) (1 + k) 0) ≡ cond b (Some 0) (option_map suc (place_by (nat_lt k n) k))
position_by true k n = ap (λ b. place_by b 0) (lt-ltb 0 (suc n) (omega arith))
position_by false k n =
    let next : 1 + k ≡ suc k = omega arith in
    ap (λ b. place_by b (1 + k)) (later_less k n) ∙ (ap (place_by (nat_lt k n)) next ∙ later_by (nat_lt k n) k)

-- the place of the first of a list that passes a test
pub position_first : {A : Type 0} (test : A → Bool) (x : A) (xs : List A) → position test (x ∷ xs) ≡ cond (test x) (Some 0) (option_map suc (position test xs))
position_first test x xs = position_by (test x) (position_or_len test xs) (length xs)

none_by : (b : Bool) (o : Option ℕ) → cond b (Some 0) (option_map suc o) ≡ None → (b ≡ false) × (o ≡ None)
none_by true o h = cc
none_by false None h = (refl, refl)
none_by false (Some k) h = cc

number_none : (h : ClassHead) (hs : List ClassHead) (name : Named) → number_of (h ∷ hs) name ≡ None → (bytes_eq h.name name ≡ false) × (number_of hs name ≡ None)
number_none h hs name none = none_by (bytes_eq h.name name) (number_of hs name) (sym (position_first (is_called name) h hs) ∙ none)

-- the number of a name that none before has
number_behind : (before : List ClassHead) (h : ClassHead) (behind : List ClassHead) → number_of before h.name ≡ None → number_of (before ++ h ∷ behind) h.name ≡ Some (length before)
number_behind [] h behind none = position_first (is_called h.name) h behind ∙ ap (λ b. cond b (Some 0) (option_map suc (number_of behind h.name))) (bytes_same h.name)
number_behind (x ∷ xs) h behind none =
    let parts : (bytes_eq x.name h.name ≡ false) × (number_of xs h.name ≡ None) = number_none x xs h.name none in
    position_first (is_called h.name) x (xs ++ h ∷ behind)
    ∙ (ap (λ b. cond b (Some 0) (option_map suc (number_of (xs ++ h ∷ behind) h.name))) parts.0 ∙ ap (option_map suc) (number_behind xs h behind parts.1))

-- a list, taken apart at a place
record At {A : Type 0} (xs : List A) (k : ℕ) (x : A) : Type 0 where
  before : List A
  behind : List A
  whole : xs ≡ before ++ x ∷ behind
  count : length before ≡ k

at : {A : Type 0} (xs : List A) (k : ℕ) (x : A) → slice_get xs k ≡ Some x → At xs k x
at [] k x e = cc
at (y ∷ ys) zero x e =
    let same : y ≡ x = cc in
    record { before = []; behind = ys; whole = ap (λ z. z ∷ ys) same; count = refl }
at (y ∷ ys) (suc k) x e =
    let rest : At ys k x = at ys k x e in
    record { before = y ∷ rest.before; behind = rest.behind; whole = ap (λ l. y ∷ l) rest.whole; count = ap suc rest.count }

pub names_have_numbers : law.NamesHaveNumbers
names_have_numbers heads k h distinct e =
    let a : At heads k h = at heads k h e in
    ap (λ l. number_of l h.name) a.whole ∙ (number_behind a.before h a.behind (distinct a.before h a.behind a.whole) ∙ ap Some a.count)

-- ---- heads that are found

abbrev Numbered : List ClassHead → Named → Option ℕ → Type 0
Numbered heads name o = elim o [ None ↦ found (of_heads heads) name ≡ None | Some k ↦ law.StandsAt heads name k ]

stands_by : (h : ClassHead) (hs : List ClassHead) (name : Named) → bytes_eq h.name name ≡ false → (o : Option ℕ) → Numbered hs name o → Numbered (h ∷ hs) name (option_map suc o)
stands_by h hs name other None n = ap (λ b. cond b (Some (head_shape h)) (found (of_heads hs) name)) other ∙ n
stands_by h hs name other (Some k) n = record { head = n.head; there = n.there; named = n.named; is_it = ap (λ b. cond b (Some (head_shape h)) (found (of_heads hs) name)) other ∙ n.is_it }

numbered : (heads : List ClassHead) (name : Named) → Numbered heads name (number_of heads name)
numbered [] name = refl
numbered (h ∷ hs) name =
    let P : Option ℕ → Type 0 = λ o. Numbered (h ∷ hs) name o in
    elim (cases_Bool (bytes_eq h.name name)) [
      | inl it ↦
          let first : number_of (h ∷ hs) name ≡ Some 0 = position_first (is_called name) h hs ∙ ap (λ b. cond b (Some 0) (option_map suc (number_of hs name))) it in
          subst P (sym first)
          (record { head = h; there = refl; named = same_bytes h.name name it; is_it = ap (λ b. cond b (Some (head_shape h)) (found (of_heads hs) name)) it })
      | inr other ↦
          let later : number_of (h ∷ hs) name ≡ option_map suc (number_of hs name) = position_first (is_called name) h hs ∙ ap (λ b. cond b (Some 0) (option_map suc (number_of hs name))) other in
          subst P (sym later) (stands_by h hs name other (number_of hs name) (numbered hs name))
    ]

pub numbers_stand : law.NumbersStand
numbers_stand heads name k e =
    let P : Option ℕ → Type 0 = λ o. Numbered heads name o in
    subst P e (numbered heads name)

pub heads_are_found : law.HeadsAreFound
heads_are_found heads k h distinct e =
    let s : law.StandsAt heads h.name k = numbers_stand heads h.name k (names_have_numbers heads k h distinct e) in
    let both : Some s.head ≡ Some h = sym s.there ∙ e in
    let same : s.head ≡ h = cc in
    s.is_it ∙ ap (λ x. Some (head_shape x)) same

none_numbered : (heads : List ClassHead) (name : Named) (o : Option ℕ) → Numbered heads name o → found (of_heads heads) name ≡ None → o ≡ None
none_numbered heads name None n none = refl
none_numbered heads name (Some k) n none =
    let wrong : Some (head_shape n.head) ≡ None = sym n.is_it ∙ none in
    absurd (cc)

pub none_is_missed : law.NoneIsMissed
none_is_missed heads name =
    let P : Option ℕ → Type 0 = λ o. Numbered heads name o in
    (λ e. subst P e (numbered heads name), λ none. none_numbered heads name (number_of heads name) (numbered heads name) none)

-- ---- hierarchies

same_heads : (heads : List ClassHead) → heads_of (of_heads heads) ≡ heads
same_heads [] = refl
same_heads (h ∷ hs) = ap (λ l. h ∷ l) (same_heads hs)

none_bare : (o : Option Shape) → option_map (λ s. head_shape s.head) o ≡ None → o ≡ None
none_bare None h = refl
none_bare (Some s) h = cc

new_names : (heads : List ClassHead) → AreDistinct heads → (before : List Shape) (s : Shape) (behind : List Shape) → of_heads heads ≡ before ++ s ∷ behind → found before s.head.name ≡ None
new_names heads distinct before s behind e =
    let whole : heads ≡ heads_of before ++ s.head ∷ heads_of behind = sym (same_heads heads) ∙ (ap heads_of e ∙ map-append (λ t. t.head) before (s ∷ behind)) in
    let bare : found (of_heads (heads_of before)) s.head.name ≡ None = (none_is_missed (heads_of before) s.head.name).0 (distinct (heads_of before) s.head (heads_of behind) whole) in
    none_bare (found before s.head.name) (sym (heads_find before s.head.name) ∙ bare)

found_placed : (heads : List ClassHead) (c : Named) (s : Shape) → list_all is_placed heads ≡ true → found (of_heads heads) c ≡ Some s → is_placed s.head ≡ true
found_placed [] c s all e = cc
found_placed (h ∷ hs) c s all e =
    let parts : (is_placed h ≡ true) × (list_all is_placed hs ≡ true) = and_parts (is_placed h) (list_all is_placed hs) all in
    elim (cases_Bool (bytes_eq h.name c)) [
      | inl it ↦
          let first : Some (head_shape h) ≡ Some s = ap (λ b. cond b (Some (head_shape h)) (found (of_heads hs) c)) (sym it) ∙ e in
          let same : head_shape h ≡ s = cc in
          ap (λ t. is_placed t.head) (sym same) ∙ parts.0
      | inr other ↦ found_placed hs c s parts.1 (ap (λ b. cond b (Some (head_shape h)) (found (of_heads hs) c)) (sym other) ∙ e)
    ]

top_object : (heads : List ClassHead) → list_all is_placed heads ≡ true → (c : Named) (s : Shape) → found (of_heads heads) c ≡ Some s → s.head.interface ≡ false → s.head.superclass ≡ None → c ≡ object_name
top_object heads all c s e class none =
    let placed : is_placed s.head ≡ true = found_placed heads c s all e in
    let named : bytes_eq s.head.name object_name ≡ true =
    sym (ap (λ o. same_bool (is_none o) (s.head.interface || bytes_eq s.head.name object_name)) none ∙ ap (λ b. b || bytes_eq s.head.name object_name) class) ∙ placed in
    sym (found_name (of_heads heads) c s e) ∙ same_bytes s.head.name object_name named

pub heads_make_hierarchies : law.HeadsMakeHierarchies
heads_make_hierarchies heads distinct all = record { names = new_names heads distinct; top = top_object heads all }
