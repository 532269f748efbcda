-- The least of faults, part by part.
use Rattle.std.proofs.Common.{◌≡◌, ◌<◌, ◌≤◌, ◌+◌, ◌⊎◌, ℕ, Bool, true, false, cond, nat_eq, nat_lt, ◌&&◌, Option, None, Some, inl, inr, refl, sym, subst, ◌∙◌, arith}
use Rattle.std.proofs.lemmas.Bool.{or_cases, or_parts, and_parts, ltb-true, ltb-false, eqb-true, eq-eqb, cases_lt, cases_order}
use Rattle.bcj_decl_rules.specs.Faults.{rank}
use Rattle.bcj_decl_faults.specs.Spots.{Spot, comes_before, earlier, NoLater, IsLeast}
use Rattle.bcj_decl_faults.specs.Parts.{Below}

no_later_goes_on : (x y z : Spot) → NoLater x y → NoLater y z → NoLater x z
no_later_goes_on x y z (inl a) (inl b) = inl (omega arith)
no_later_goes_on x y z (inl a) (inr b) = inl (omega (arith, b.0))
no_later_goes_on x y z (inr a) (inl b) = inl (omega (arith, a.0))
no_later_goes_on x y z (inr a) (inr b) = inr (a.0 ∙ b.0, omega (arith, a.1, b.1))

before_then : (x y : Spot) → comes_before x y ≡ true → NoLater x y
before_then x y h =
    elim (or_cases (nat_lt x.at y.at) (nat_eq x.at y.at && nat_lt (rank x.refusal) (rank y.refusal)) h) [
      | inl less ↦ inl (ltb-true x.at y.at less)
      | inr both ↦
          let parts : (nat_eq x.at y.at ≡ true) × (nat_lt (rank x.refusal) (rank y.refusal) ≡ true) = and_parts _ _ both in
          let less : rank x.refusal < rank y.refusal = ltb-true (rank x.refusal) (rank y.refusal) parts.1 in
          inr (eqb-true x.at y.at parts.0, omega arith)
    ]

ranks_by : (a b : ℕ) (e : Bool) → e ≡ true → (e && nat_lt a b) ≡ false → b ≤ a
ranks_by a b true e h = ltb-false a b h
ranks_by a b false e h = cc

not_before_then : (x y : Spot) → comes_before x y ≡ false → NoLater y x
not_before_then x y h =
    let parts : (nat_lt x.at y.at ≡ false) × ((nat_eq x.at y.at && nat_lt (rank x.refusal) (rank y.refusal)) ≡ false) = or_parts _ _ h in
    let no_less : y.at ≤ x.at = ltb-false x.at y.at parts.0 in
    elim (cases_order y.at x.at) [
      | inl same ↦ inr (same, ranks_by (rank x.refusal) (rank y.refusal) (nat_eq x.at y.at) (eq-eqb x.at y.at (sym same)) parts.1)
      | inr other ↦ elim other [ inl less ↦ inl less | inr more ↦ absurd (omega arith) ]
    ]

-- the faults of two parts
abbrev pub Either : (Spot → Type 0) → (Spot → Type 0) → Spot → Type 0
Either F G x = F x ⊎ G x

two_by : (F G : Spot → Type 0) (x y : Spot) (b : Bool) → comes_before y x ≡ b → IsLeast F (Some x) → IsLeast G (Some y) → IsLeast (Either F G) (cond b (Some y) (Some x))
two_by F G x y true e f g = (
  inr g.0,
  λ z h. elim h [ inl of_f ↦ no_later_goes_on y x z (before_then y x e) (f.1 z of_f) | inr of_g ↦ g.1 z of_g ],
)
two_by F G x y false e f g = (
  inl f.0,
  λ z h. elim h [ inl of_f ↦ f.1 z of_f | inr of_g ↦ no_later_goes_on x y z (not_before_then y x e) (g.1 z of_g) ],
)

pub least_of_two : (F G : Spot → Type 0) (o p : Option Spot) → IsLeast F o → IsLeast G p → IsLeast (Either F G) (earlier o p)
least_of_two F G None None f g = λ z h. elim h [ inl of_f ↦ f z of_f | inr of_g ↦ g z of_g ]
least_of_two F G None (Some y) f g = (inr g.0, λ z h. elim h [ inl of_f ↦ absurd (f z of_f) | inr of_g ↦ g.1 z of_g ])
least_of_two F G (Some x) None f g = (inl f.0, λ z h. elim h [ inl of_f ↦ f.1 z of_f | inr of_g ↦ absurd (g z of_g) ])
least_of_two F G (Some x) (Some y) f g = two_by F G x y (comes_before y x) refl f g

-- the same faults
pub least_of_same : (F G : Spot → Type 0) (o : Option Spot) → ((x : Spot) → F x → G x) → ((x : Spot) → G x → F x) → IsLeast F o → IsLeast G o
least_of_same F G None to from f = λ x h. f x (from x h)
least_of_same F G (Some y) to from f = (to y f.0, λ x h. f.1 x (from x h))

-- ---- position by position

pub none_below : (Has : ℕ → Spot → Type 0) → IsLeast (Below Has 0) None
none_below Has = λ x h. let inside : h.position < 0 = h.inside in omega arith

one_more : (Has : ℕ → Spot → Type 0) (n : ℕ) (x : Spot) → Either (Below Has n) (Has n) x → Below Has (n + 1) x
one_more Has n x (inl b) = let inside : b.position < n = b.inside in record { position = b.position; inside = omega arith; fault = b.fault }
one_more Has n x (inr h) = record { position = n; inside = omega arith; fault = h }

one_less : (Has : ℕ → Spot → Type 0) (n : ℕ) (x : Spot) → Below Has (n + 1) x → Either (Below Has n) (Has n) x
one_less Has n x b =
    let inside : b.position < n + 1 = b.inside in
    let P : ℕ → Type 0 = λ k. Has k x in
    elim (cases_lt b.position n) [ inl less ↦ inl (record { position = b.position; inside = less; fault = b.fault }) | inr more ↦ let same : b.position ≡ n = omega arith in inr (subst P same b.fault) ]

pub least_below : (Has : ℕ → Spot → Type 0) (n : ℕ) (o p : Option Spot) → IsLeast (Below Has n) o → IsLeast (Has n) p → IsLeast (Below Has (n + 1)) (earlier o p)
least_below Has n o p f g = least_of_same (Either (Below Has n) (Has n)) (Below Has (n + 1)) (earlier o p) (one_more Has n) (one_less Has n) (least_of_two (Below Has n) (Has n) o p f g)
