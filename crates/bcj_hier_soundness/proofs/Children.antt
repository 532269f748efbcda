-- The children of a class: who they are, and that each stands once.
use Rattle.std.proofs.Common.{◌≡◌, List, [], ◌∷◌, ◌++◌, map, filter, Option, Some, None, Bool, true, false, not, cond, ◌&&◌, refl, sym, ◌∙◌, ap, subst, inl, inr, append_assoc, append-nil, is_none}
use Rattle.std.proofs.lemmas.Bool.{cases_Bool, or_cases, and_parts, and_from, not-true, not_from_false}
use Rattle.std.proofs.lemmas.List.Elements.{filter-append}
use Rattle.std.proofs.lemmas.List.Folds.{find-append}
use Rattle.std.proofs.lemmas.List.{map-append}
use Rattle.std.specs.Option.{option_or, option_map_or}
use Rattle.std.specs.Str.{bytes_eq}
use Rattle.bcj_hier_rules.specs.declared.link_error.LinkError.{LinkError}
use Rattle.bcj_hier_rules.specs.Shapes.{Named, Shape, Mixture, found}
use Rattle.bcj_hier_rules.specs.Loading.{load_error}
use Rattle.bcj_hier_rules.specs.Trees.{loads, is_child, children}
use Rattle.bcj_hier_soundness.specs.Laws.{IsHierarchy}
use Rattle.bcj_hier_soundness.proofs.Names.{is_in, same_bytes, bytes_same, found_name}
use Rattle.bcj_hier_soundness.proofs.Circles.{Child, other_way}

abbrev names_of : List Shape → List Named
names_of = map (λ s. s.head.name)

-- a type of a list that passes a test, where it stands
record Standing (test : Shape → Bool) (ms : List Shape) (e : Named) : Type 0 where
  before : List Shape
  shape : Shape
  behind : List Shape
  whole : ms ≡ before ++ shape ∷ behind
  passes : test shape ≡ true
  called : e ≡ shape.head.name

one_more : (test : Shape → Bool) (t : Shape) (ts : List Shape) (e : Named) → Standing test ts e → Standing test (t ∷ ts) e
one_more test t ts e s = record { before = t ∷ s.before; shape = s.shape; behind = s.behind; whole = ap (λ l. t ∷ l) s.whole; passes = s.passes; called = s.called }

standing : (test : Shape → Bool) (ms : List Shape) (e : Named) → is_in e (names_of (filter test ms)) ≡ true → Standing test ms e
standing test [] e h = cc
standing test (t ∷ ts) e h =
    elim (cases_Bool (test t)) [
      | inl it_passes ↦
          let first : is_in e (t.head.name ∷ names_of (filter test ts)) ≡ true = sym (ap (λ b. is_in e (names_of (cond b (t ∷ filter test ts) (filter test ts)))) it_passes) ∙ h in
          elim (or_cases (bytes_eq e t.head.name) (is_in e (names_of (filter test ts))) first) [
            | inl it ↦ record { before = []; shape = t; behind = ts; whole = refl; passes = it_passes; called = same_bytes e t.head.name it }
            | inr other ↦ one_more test t ts e (standing test ts e other)
          ]
      | inr fails ↦ one_more test t ts e (standing test ts e (sym (ap (λ b. is_in e (names_of (cond b (t ∷ filter test ts) (filter test ts)))) fails) ∙ h))
    ]

-- a type is found by its name, where no name stands twice
found_there : (m : Mixture) → IsHierarchy m → (before : List Shape) (s : Shape) (behind : List Shape) → m ≡ before ++ s ∷ behind → found m s.head.name ≡ Some s
found_there m h before s behind whole =
    ap (λ l. found l s.head.name) whole
    ∙ (find-append (λ t. bytes_eq t.head.name s.head.name) before (s ∷ behind)
    ∙ (ap (λ o. option_or o (found (s ∷ behind) s.head.name)) (h.names before s behind whole) ∙ ap (λ b. cond b (Some s) (found behind s.head.name)) (bytes_same s.head.name)))

none_there : (o : Option LinkError) → is_none o ≡ true → o ≡ None
none_there None h = refl
none_there (Some e) h = cc

named_above : (p : Named) (o : Option Named) → option_map_or (bytes_eq p) o false ≡ true → o ≡ Some p
named_above p None h = cc
named_above p (Some q) h = ap Some (sym (same_bytes p q h))

child_there : (m : Mixture) (p : Named) (s : Shape) → found m s.head.name ≡ Some s → is_child m p s ≡ true → Child m p s.head.name
child_there m p s e h =
    let parts : (not s.head.interface ≡ true) × ((loads m s.head.name && option_map_or (bytes_eq p) s.head.superclass false) ≡ true) = and_parts _ _ h in
    let more : (loads m s.head.name ≡ true) × (option_map_or (bytes_eq p) s.head.superclass false ≡ true) = and_parts _ _ parts.1 in
    record {
      shape = s;
      is_it = e;
      class = not-true s.head.interface parts.0;
      loads = none_there (load_error m s.head.name) more.0;
      up = named_above p s.head.superclass more.1;
    }

-- where a child of a class stands in a part of the mixture
child_standing : (m : Mixture) → IsHierarchy m → (p e : Named) (front ms back : List Shape) → m ≡ front ++ (ms ++ back) → Standing (is_child m p) ms e → Child m p e
child_standing m h p e front ms back whole s =
    let P : Named → Type 0 = λ x. Child m p x in
    let place : m ≡ (front ++ s.before) ++ s.shape ∷ (s.behind ++ back) =
    whole ∙ (ap (λ l. front ++ (l ++ back)) s.whole ∙ (ap (λ l. front ++ l) (append_assoc s.before (s.shape ∷ s.behind) back) ∙ sym (append_assoc front s.before (s.shape ∷ (s.behind ++ back))))) in
    subst P (sym s.called) (child_there m p s.shape (found_there m h (front ++ s.before) s.shape (s.behind ++ back) place) s.passes)

pub child_of : (m : Mixture) → IsHierarchy m → (p e : Named) → is_in e (children m p) ≡ true → Child m p e
child_of m h p e i = child_standing m h p e [] m [] (sym (append-nil m)) (standing (is_child m p) m e i)

-- ---- the others

-- the mixture, taken apart where a name is found
record Found (ms : Mixture) (name : Named) (s : Shape) : Type 0 where
  before : List Shape
  behind : List Shape
  whole : ms ≡ before ++ s ∷ behind
  first : found before name ≡ None

found_at : (ms : Mixture) (name : Named) (s : Shape) → found ms name ≡ Some s → Found ms name s
found_at [] name s e = cc
found_at (t ∷ ts) name s e =
    elim (cases_Bool (bytes_eq t.head.name name)) [
      | inl it ↦
          let here_it : Some t ≡ Some s = ap (λ b. cond b (Some t) (found ts name)) (sym it) ∙ e in
          let named : t ≡ s = cc in
          record { before = []; behind = ts; whole = ap (λ x. x ∷ ts) named; first = refl }
      | inr other ↦
          let rest : Found ts name s = found_at ts name s (ap (λ b. cond b (Some t) (found ts name)) (sym other) ∙ e) in
          record { before = t ∷ rest.before; behind = rest.behind; whole = ap (λ l. t ∷ l) rest.whole; first = ap (λ b. cond b (Some t) (found rest.before name)) other ∙ rest.first }
    ]

-- a name that isn't found is that of none
none_called : (before : List Shape) (t : Shape) (behind : List Shape) (name : Named) → found (before ++ t ∷ behind) name ≡ None → bytes_eq t.head.name name ≡ false
none_called [] t behind name h =
    elim (cases_Bool (bytes_eq t.head.name name)) [
      | inl it ↦
          let wrong : Some t ≡ None = sym (ap (λ b. cond b (Some t) (found behind name)) it) ∙ h in
          absurd (cc)
      | inr other ↦ other
    ]
none_called (u ∷ us) t behind name h =
    elim (cases_Bool (bytes_eq u.head.name name)) [
      | inl it ↦
          let wrong : Some u ≡ None = sym (ap (λ b. cond b (Some u) (found (us ++ t ∷ behind) name)) it) ∙ h in
          absurd (cc)
      | inr other ↦ none_called us t behind name (sym (ap (λ b. cond b (Some u) (found (us ++ t ∷ behind) name)) other) ∙ h)
    ]

-- another child of the class
pub record Other (m : Mixture) (p d e : Named) : Type 0 where
  pub child : Child m p e
  pub other : bytes_eq e d ≡ false

-- the children of a class, taken apart at one of them
pub record Siblings (m : Mixture) (p d : Named) : Type 0 where
  pub front : List Named
  pub back : List Named
  pub whole : children m p ≡ front ++ d ∷ back
  pub earlier : (e : Named) → is_in e front ≡ true → Other m p d e
  pub later : (e : Named) → is_in e back ≡ true → Other m p d e

is_child_of : (m : Mixture) (p d : Named) (k : Child m p d) → k.shape.head.name ≡ d → is_child m p k.shape ≡ true
is_child_of m p d k name =
    let loading : loads m k.shape.head.name ≡ true = ap (loads m) name ∙ ap is_none k.loads in
    let above : option_map_or (bytes_eq p) k.shape.head.superclass false ≡ true = ap (λ o. option_map_or (bytes_eq p) o false) k.up ∙ bytes_same p in
    and_from (not k.shape.head.interface) _ (not_from_false k.shape.head.interface k.class) (and_from (loads m k.shape.head.name) _ loading above)

earlier_other : (m : Mixture) → IsHierarchy m → (p d : Named) (s : Shape) (f : Found m d s) (e : Named) → is_in e (names_of (filter (is_child m p) f.before)) ≡ true → Other m p d e
earlier_other m h p d s f e i =
    let t : Standing (is_child m p) f.before e = standing (is_child m p) f.before e i in
    let none : bytes_eq t.shape.head.name d ≡ false = none_called t.before t.shape t.behind d (sym (ap (λ l. found l d) t.whole) ∙ f.first) in
    record { child = child_standing m h p e [] f.before (s ∷ f.behind) f.whole t; other = ap (λ x. bytes_eq x d) t.called ∙ none }

-- behind a type of this name stands none of this name
later_other : (m : Mixture) → IsHierarchy m → (p d : Named) (s : Shape) (f : Found m d s) → s.head.name ≡ d → (e : Named) → is_in e (names_of (filter (is_child m p) f.behind)) ≡ true → Other m p d e
later_other m h p d s f name e i =
    let t : Standing (is_child m p) f.behind e = standing (is_child m p) f.behind e i in
    let place : m ≡ (f.before ++ s ∷ t.before) ++ t.shape ∷ t.behind = f.whole ∙ (ap (λ l. f.before ++ s ∷ l) t.whole ∙ sym (append_assoc f.before (s ∷ t.before) (t.shape ∷ t.behind))) in
    let none : bytes_eq s.head.name t.shape.head.name ≡ false = none_called f.before s t.before t.shape.head.name (h.names (f.before ++ s ∷ t.before) t.shape t.behind place) in
    let all : m ≡ (f.before ++ s ∷ []) ++ (f.behind ++ []) = f.whole ∙ (sym (append_assoc f.before (s ∷ []) f.behind) ∙ ap (λ l. (f.before ++ s ∷ []) ++ l) (sym (append-nil f.behind))) in
    record {
      child = child_standing m h p e (f.before ++ s ∷ []) f.behind [] all t;
      other = other_way d e (ap (λ x. bytes_eq x e) (sym name) ∙ (ap (bytes_eq s.head.name) t.called ∙ none));
    }

pub siblings : (m : Mixture) → IsHierarchy m → (p d : Named) → Child m p d → Siblings m p d
siblings m h p d k =
    let f : Found m d k.shape = found_at m d k.shape k.is_it in
    let name : k.shape.head.name ≡ d = found_name m d k.shape k.is_it in
    let here_it : is_child m p k.shape ≡ true = is_child_of m p d k name in
    let front : List Shape = filter (is_child m p) f.before in
    let back : List Shape = filter (is_child m p) f.behind in
    let split : filter (is_child m p) m ≡ front ++ k.shape ∷ back =
    ap (filter (is_child m p)) f.whole ∙ (filter-append (is_child m p) f.before (k.shape ∷ f.behind) ∙ ap (λ b. front ++ cond b (k.shape ∷ back) back) here_it) in
    record {
      front = names_of front;
      back = names_of back;
      whole = ap names_of split ∙ (map-append (λ s. s.head.name) front (k.shape ∷ back) ∙ ap (λ n. names_of front ++ n ∷ names_of back) name);
      earlier = earlier_other m h p d k.shape f;
      later = later_other m h p d k.shape f name;
    }
