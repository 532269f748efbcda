-- Names in lists of names, and the type of a name.
use Rattle.std.proofs.Common.{rules, ◌≡◌, List, [], ◌∷◌, ◌++◌, Some, Bool, true, cond, refl, sym, ◌∙◌, ap, inl, inr}
use Rattle.std.proofs.lemmas.Bool.{or_cases, or_left, or_right, cases_Bool}
use Rattle.std.proofs.lemmas.Slice.Eq.{bytes_eq-Decides}
use Rattle.std.specs.List.{list_any}
use Rattle.std.specs.Str.{bytes_eq}
use Rattle.bcj_hier_rules.specs.Shapes.{Named, Shape, Mixture, found}

abbrev pub is_in : Named → List Named → Bool
is_in name names = list_any (bytes_eq name) names

-- bytes that compare as equal are equal, and the reverse
pub same_bytes : (a b : Named) → bytes_eq a b ≡ true → a ≡ b
same_bytes a b h = search (rules, bytes_eq-Decides a b)

pub bytes_same : (a : Named) → bytes_eq a a ≡ true
bytes_same a = (bytes_eq-Decides a a).1 refl

-- the first of a list is in it
pub in_first : (a : Named) (rest : List Named) → is_in a (a ∷ rest) ≡ true
in_first a rest = or_left (bytes_eq a a) (is_in a rest) (bytes_same a)

-- what passes a test and is in a list shows that one in it passes
pub any_in : (f : Named → Bool) (a : Named) (names : List Named) → is_in a names ≡ true → f a ≡ true → list_any f names ≡ true
any_in f a [] h it = cc
any_in f a (n ∷ ns) h it =
    elim (or_cases (bytes_eq a n) (is_in a ns) h) [
      | inl same ↦ or_left (f n) (list_any f ns) (ap f (sym (same_bytes a n same)) ∙ it)
      | inr other ↦ or_right (f n) (list_any f ns) (any_in f a ns other it)
    ]

-- a name is in a list that has it in the middle
pub in_middle : (a : Named) (front back : List Named) → is_in a (front ++ a ∷ back) ≡ true
in_middle a [] back = in_first a back
in_middle a (f ∷ front) back = or_right (bytes_eq a f) (is_in a (front ++ a ∷ back)) (in_middle a front back)

-- a type that is found has the name
pub found_name : (m : Mixture) (name : Named) (s : Shape) → found m name ≡ Some s → s.head.name ≡ name
found_name [] name s e = cc
found_name (t ∷ ts) name s e =
    elim (cases_Bool (bytes_eq t.head.name name)) [
      | inl it ↦
          let here_it : Some t ≡ Some s = ap (λ b. cond b (Some t) (found ts name)) (sym it) ∙ e in
          let named : t ≡ s = cc in
          sym (ap (λ v. v.head.name) named) ∙ same_bytes t.head.name name it
      | inr other ↦ found_name ts name s (ap (λ b. cond b (Some t) (found ts name)) (sym other) ∙ e)
    ]
