-- The loops that read descriptors: one turn, and each end.
use Rattle.std.proofs.Common.{◌≡◌, ◌≢◌, ℕ, suc, ◌+◌, ◌-◌, ◌<◌, ◌≤◌, true, false, List, [], ◌∷◌, length, get_or, drop, Option, Some, None, ap, sym, ◌∙◌, refl, arith}
use Rattle.std.specs.Prelude.{◌==◌}
use Rattle.std.proofs.lemmas.Bool.Decides.{nat_tests}
use Rattle.std.proofs.lemmas.List.{at_drop_more, at_drop_all}
use Rattle.bcj_tables_rules.specs.Texts.{behind_brackets, semicolon_at, behind_element, behind_type, behind_parameters}
use Rattle.bcj_tables.specs.function.Beginnings.{begins}

-- turns are left
pub fewer : (n at : ℕ) → at < n → n - at ≡ suc (n - (at + 1))
fewer n at h = omega arith

-- ---- brackets

bracket_taken : (k : ℕ) (z : List ℕ) → true ≡ begins 91 z → behind_brackets (suc k) z ≡ behind_brackets k (drop 1 z)
unfolding behind_brackets
bracket_taken k [] h = absurd cc
bracket_taken k (b ∷ z) h = rw (sym h) refl

other_left : (k : ℕ) (z : List ℕ) → false ≡ begins 91 z → behind_brackets (suc k) z ≡ z
unfolding behind_brackets
other_left k [] h = refl
other_left k (b ∷ z) h = rw (sym h) refl

-- a bracket is taken
pub brackets_turn : (X : List ℕ) (n at : ℕ) (z : List ℕ) → at < n → X ≡ behind_brackets (n - at) z → true ≡ begins 91 z → X ≡ behind_brackets (n - (at + 1)) (drop 1 z)
brackets_turn X n at z b h e = h ∙ (ap (λ k. behind_brackets k z) (fewer n at b) ∙ bracket_taken (n - (at + 1)) z e)

-- no bracket follows
pub brackets_end : (X : List ℕ) (n at : ℕ) (z : List ℕ) → at < n → X ≡ behind_brackets (n - at) z → false ≡ begins 91 z → z ≡ X
brackets_end X n at z b h e = sym (h ∙ (ap (λ k. behind_brackets k z) (fewer n at b) ∙ other_left (n - (at + 1)) z e))

-- no turn is left
pub brackets_done : (X : List ℕ) (n at : ℕ) (z : List ℕ) → n ≤ at → X ≡ behind_brackets (n - at) z → z ≡ X
unfolding behind_brackets
brackets_done X n at z b h = let none : n - at ≡ 0 = omega arith in sym (h ∙ ap (λ k. behind_brackets k z) none)

-- ---- semicolons

passed : (b : ℕ) (z : List ℕ) → b ≢ 59 → semicolon_at (b ∷ z) ≡ suc (semicolon_at z)
unfolding semicolon_at
passed b z h = let no : (b == 59) ≡ false = grind (arith, nat_tests) in rw no refl

found : (b : ℕ) (z : List ℕ) → b ≡ 59 → semicolon_at (b ∷ z) ≡ 0
unfolding semicolon_at
found b z h = rw h refl

missing : semicolon_at [] ≡ 0
unfolding semicolon_at
missing = refl

-- a byte that is no semicolon is passed
pub semicolon_turn : (z : List ℕ) (i : ℕ) → i < length z → get_or z i 0 ≢ 59 → semicolon_at z ≡ i + semicolon_at (drop i z) → semicolon_at z ≡ i + 1 + semicolon_at (drop (i + 1) z)
semicolon_turn z i b h e =
    let step : semicolon_at (drop i z) ≡ suc (semicolon_at (drop (i + 1) z)) = at_drop_more semicolon_at z i 0 b ∙ passed (get_or z i 0) (drop (i + 1) z) h in
    omega (arith, e, step)

-- the semicolon
pub semicolon_found : (z : List ℕ) (i : ℕ) → i < length z → get_or z i 0 ≡ 59 → semicolon_at z ≡ i + semicolon_at (drop i z) → i ≡ semicolon_at z
semicolon_found z i b h e =
    let here : semicolon_at (drop i z) ≡ 0 = at_drop_more semicolon_at z i 0 b ∙ found (get_or z i 0) (drop (i + 1) z) h in
    omega (arith, e, here)

-- there is none
pub semicolon_none : (z : List ℕ) (i : ℕ) → length z ≤ i → semicolon_at z ≡ i + semicolon_at (drop i z) → i ≡ semicolon_at z
semicolon_none z i b e = let here : semicolon_at (drop i z) ≡ 0 = at_drop_all semicolon_at z i b ∙ missing in omega (arith, e, here)

-- ---- parameters

ended : (k : ℕ) (z : List ℕ) → true ≡ begins 41 z → behind_parameters (suc k) z ≡ Some (drop 1 z)
unfolding behind_parameters
ended k [] h = absurd cc
ended k (b ∷ z) h = rw (sym h) refl

cut : (k : ℕ) (z : List ℕ) → false ≡ begins 41 z → None ≡ behind_type z → behind_parameters (suc k) z ≡ None
unfolding behind_parameters
cut k [] h e = refl
cut k (b ∷ z) h e = rw (sym h) (rw (sym e) refl)

nothing_behind : behind_type [] ≡ None
unfolding behind_type behind_element behind_brackets
nothing_behind = refl

gone : (k : ℕ) (z w : List ℕ) → false ≡ begins 41 z → Some w ≡ behind_type z → behind_parameters (suc k) z ≡ behind_parameters k w
unfolding behind_parameters
gone k [] w h e = let no : ◌≡◌ {A = Option (List ℕ)} (Some w) None = e ∙ nothing_behind in absurd (cc)
gone k (b ∷ z) w h e = rw (sym h) (rw (sym e) refl)

out_of_turns : (z : List ℕ) → behind_parameters 0 z ≡ None
unfolding behind_parameters
out_of_turns z = refl

-- the parenthesis that ends them
pub parameters_end : (X : Option (List ℕ)) (n at : ℕ) (z : List ℕ) → at < n → X ≡ behind_parameters (n - at) z → true ≡ begins 41 z → Some (drop 1 z) ≡ X
parameters_end X n at z b h e = sym (h ∙ (ap (λ k. behind_parameters k z) (fewer n at b) ∙ ended (n - (at + 1)) z e))

-- what is no parameter
pub parameters_cut : (X : Option (List ℕ)) (n at : ℕ) (z : List ℕ) → at < n → X ≡ behind_parameters (n - at) z → false ≡ begins 41 z → None ≡ behind_type z → None ≡ X
parameters_cut X n at z b h e o = sym (h ∙ (ap (λ k. behind_parameters k z) (fewer n at b) ∙ cut (n - (at + 1)) z e o))

-- a parameter is taken
pub parameters_turn : (X : Option (List ℕ)) (n at : ℕ) (z w : List ℕ) → at < n → X ≡ behind_parameters (n - at) z → false ≡ begins 41 z → Some w ≡ behind_type z → X ≡ behind_parameters (n - (at + 1)) w
parameters_turn X n at z w b h e o = h ∙ (ap (λ k. behind_parameters k z) (fewer n at b) ∙ gone (n - (at + 1)) z w e o)

-- no turn is left
pub parameters_done : (X : Option (List ℕ)) (n at : ℕ) (z : List ℕ) → n ≤ at → X ≡ behind_parameters (n - at) z → None ≡ X
parameters_done X n at z b h = let none : n - at ≡ 0 = omega arith in sym (h ∙ (ap (λ k. behind_parameters k z) none ∙ out_of_turns z))
