-- The types of a mixture that a way has not passed yet: as many turns as there are of these are enough.
use Rattle.std.proofs.Common.{◌≡◌, ◌<◌, ◌≤◌, List, [], ◌∷◌, Some, Bool, true, false, cond, ◌||◌, refl, sym, ◌∙◌, ap, ℕ, suc, length, inl, inr, arith}
use Rattle.std.proofs.lemmas.Bool.{cases_Bool}
use Rattle.std.specs.Str.{bytes_eq}
use Rattle.bcj_hier_rules.specs.Shapes.{Named, Shape, Mixture, found}
use Rattle.bcj_hier_soundness.proofs.Names.{is_in, same_bytes}

-- how many types have a name that was not passed
pub left : List Named → Mixture → ℕ
left seen [] = 0
left seen (s ∷ ms) = cond (is_in s.head.name seen) (left seen ms) (suc (left seen ms))

by_tests : (a b : Bool) (m n : ℕ) → m ≤ n → cond (a || b) m (suc m) ≤ cond b n (suc n)
by_tests true true m n h = h
by_tests true false m n h = omega arith
by_tests false true m n h = h
by_tests false false m n h = omega arith

first_passed : (a b : Bool) (m n : ℕ) → a ≡ true → b ≡ false → m ≤ n → cond (a || b) m (suc m) < cond b n (suc n)
first_passed true true m n ea eb h = cc
first_passed true false m n ea eb h = omega arith
first_passed false true m n ea eb h = cc
first_passed false false m n ea eb h = cc

later_passed : (a b : Bool) (m n : ℕ) → m < n → cond (a || b) m (suc m) < cond b n (suc n)
later_passed true true m n h = h
later_passed true false m n h = omega arith
later_passed false true m n h = h
later_passed false false m n h = omega arith

-- passing a name leaves no more
left_less : (name : Named) (seen : List Named) (ms : Mixture) → left (name ∷ seen) ms ≤ left seen ms
unfolding left
left_less name seen [] = omega arith
left_less name seen (s ∷ ms) = by_tests (bytes_eq s.head.name name) (is_in s.head.name seen) (left (name ∷ seen) ms) (left seen ms) (left_less name seen ms)

-- fewer are left behind a type that is there and was not passed
pub left_falls : (name : Named) (s : Shape) (seen : List Named) (ms : Mixture) → is_in name seen ≡ false → found ms name ≡ Some s → left (name ∷ seen) ms < left seen ms
unfolding left
left_falls name s seen [] new e = cc
left_falls name s seen (t ∷ ts) new e =
    elim (cases_Bool (bytes_eq t.head.name name)) [
      | inl it ↦
          let fresh : is_in t.head.name seen ≡ false = ap (λ n. is_in n seen) (same_bytes t.head.name name it) ∙ new in
          first_passed (bytes_eq t.head.name name) (is_in t.head.name seen) (left (name ∷ seen) ts) (left seen ts) it fresh (left_less name seen ts)
      | inr other ↦
          let rest : found ts name ≡ Some s = ap (λ b. cond b (Some t) (found ts name)) (sym other) ∙ e in
          later_passed (bytes_eq t.head.name name) (is_in t.head.name seen) (left (name ∷ seen) ts) (left seen ts) (left_falls name s seen ts new rest)
    ]

-- at first all are left
pub left_all : (ms : Mixture) → left [] ms ≡ length ms
unfolding left
left_all [] = refl
left_all (s ∷ ms) = ap suc (left_all ms)
