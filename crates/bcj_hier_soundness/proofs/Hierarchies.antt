-- Mixtures whose names and superclasses are in order, by tests that compute.
use Rattle.std.proofs.Common.{◌≡◌, List, [], ◌∷◌, ◌++◌, Option, Some, None, Bool, true, false, cond, ◌&&◌, ◌||◌, refl, sym, ◌∙◌, ap, subst, inl, inr, append_assoc, append-nil, is_none, is_some}
use Rattle.std.proofs.lemmas.Bool.{and_parts, or_cases, cases_Bool}
use Rattle.std.proofs.lemmas.List.{map-append}
use Rattle.std.specs.Prelude.{codes}
use Rattle.std.specs.List.{list_all}
use Rattle.std.specs.Str.{bytes_eq}
use Rattle.bcj_symbolic_trees.specs.Names.{object_name}
use Rattle.bcj_hier_rules.specs.Shapes.{Named, Shape, Mixture, found}
use Rattle.bcj_hier_rules.specs.Rows.{some}
use Rattle.bcj_hier_rules.specs.Heads.{head_shape, of_heads, heads_of, AreDistinct}
use Rattle.bcj_hier_soundness.specs.Laws as law
use Rattle.bcj_hier_soundness.specs.Laws.{bare, Waits, by_superclass}
use Rattle.bcj_hier_soundness.proofs.Names.{same_bytes, found_name}
use Rattle.bcj_hier_soundness.proofs.Distinct.{none_is_missed}

-- none of these types has a name that stands before it
abbrev all_new : List Shape → List Shape → Bool
all_new before [] = true
all_new before (s ∷ ms) = is_none (found before s.head.name) && all_new (before ++ s ∷ []) ms

none_found : (o : Option Shape) → is_none o ≡ true → o ≡ None
none_found None h = refl
none_found (Some s) h = cc

new_at : (passed ms before : List Shape) (s : Shape) (behind : List Shape) → all_new passed ms ≡ true → ms ≡ before ++ s ∷ behind → found (passed ++ before) s.head.name ≡ None
new_at passed [] [] s behind new e = cc
new_at passed [] (b ∷ bs) s behind new e = cc
new_at passed (x ∷ xs) [] s behind new e =
    let parts : (is_none (found passed x.head.name) ≡ true) × (all_new (passed ++ x ∷ []) xs ≡ true) = and_parts _ _ new in
    let head : x ≡ s = ap (λ l. elim l [ [] ↦ x | y ∷ ys ↦ y ]) e in
    let P : List Shape → Type 0 = λ l. found l s.head.name ≡ None in
    let Q : Shape → Type 0 = λ y. found passed y.head.name ≡ None in
    subst P (sym (append-nil passed)) (subst Q head (none_found (found passed x.head.name) parts.0))
new_at passed (x ∷ xs) (b ∷ bs) s behind new e =
    let parts : (is_none (found passed x.head.name) ≡ true) × (all_new (passed ++ x ∷ []) xs ≡ true) = and_parts _ _ new in
    let head : x ≡ b = ap (λ l. elim l [ [] ↦ x | y ∷ ys ↦ y ]) e in
    let tail : xs ≡ bs ++ s ∷ behind = ap (λ l. elim l [ [] ↦ xs | y ∷ ys ↦ ys ]) e in
    let P : List Shape → Type 0 = λ l. found l s.head.name ≡ None in
    let Q : Shape → Type 0 = λ y. found (passed ++ y ∷ bs) s.head.name ≡ None in
    subst Q head (subst P (append_assoc passed (x ∷ []) bs) (new_at (passed ++ x ∷ []) xs bs s behind parts.1 tail))

abbrev is_placed : Shape → Bool
is_placed s = s.head.interface || (is_some s.head.superclass || bytes_eq s.head.name object_name)

placed_all : (ms : Mixture) (c : Named) (s : Shape) → list_all is_placed ms ≡ true → found ms c ≡ Some s → is_placed s ≡ true
placed_all [] c s all e = cc
placed_all (t ∷ ts) c s all e =
    let parts : (is_placed t ≡ true) × (list_all is_placed ts ≡ true) = and_parts (is_placed t) (list_all is_placed ts) all in
    elim (cases_Bool (bytes_eq t.head.name c)) [
      | inl it ↦
          let here_it : Some t ≡ Some s = ap (λ b. cond b (Some t) (found ts c)) (sym it) ∙ e in
          let named : t ≡ s = cc in
          ap is_placed (sym named) ∙ parts.0
      | inr other ↦ placed_all ts c s parts.1 (ap (λ b. cond b (Some t) (found ts c)) (sym other) ∙ e)
    ]

top_object : (m : Mixture) → list_all is_placed m ≡ true → (c : Named) (s : Shape) → found m c ≡ Some s → s.head.interface ≡ false → s.head.superclass ≡ None → c ≡ object_name
top_object m all c s e class none =
    let at : is_placed s ≡ true = placed_all m c s all e in
    let named : bytes_eq s.head.name object_name ≡ true = sym (ap (λ b. b || (is_some s.head.superclass || bytes_eq s.head.name object_name)) class ∙ ap (λ o. is_some o || bytes_eq s.head.name object_name) none) ∙ at in
    sym (found_name m c s e) ∙ same_bytes s.head.name object_name named

pub some_is_hierarchy : law.SomeIsHierarchy
some_is_hierarchy = record { names = λ before s behind e. new_at [] some before s behind refl e; top = top_object some refl }

-- ---- the heads of the mixture `some`, and its circle

some_distinct : AreDistinct (heads_of some)
some_distinct before h behind e =
    (none_is_missed before h.name).1 (new_at [] (bare some) (of_heads before) (head_shape h) (of_heads behind) refl (ap of_heads e ∙ map-append head_shape before (h ∷ behind)))

pub some_is_rooted : law.SomeIsRooted
some_is_rooted = (some_distinct, record { top = _; others = _; first = refl; named = refl; class = refl; alone = refl; placed = refl })

pub some_wait : law.SomeWait
some_wait c u =
    let P : Named → Type 0 = λ x. Waits some law.some_circle x in
    elim (or_cases (bytes_eq c (codes "C")) (bytes_eq c (codes "D")) u) [
      | inl it ↦ subst P (sym (same_bytes c (codes "C") it)) (by_superclass refl refl refl)
      | inr it ↦ subst P (sym (same_bytes c (codes "D") it)) (by_superclass refl refl refl)
    ]
