-- Where a test first passes in a list.
use Rattle.std.proofs.Common.{◌≡◌, ℕ, suc, ◌+◌, Bool, true, false, cond, List, [], ◌∷◌, ◌++◌, length, Option, None, Some, refl, sym, ap, ◌∙◌, arith}
use Rattle.std.specs.Prelude.{◌||◌, nat_lt, is_some, if◌then◌else◌}
use Rattle.std.specs.List.{list_any, position, position_or_len}
use Rattle.std.specs.Option.{option_or}

-- a place further on
abbrev further : Option ℕ → Option ℕ
further None = None
further (Some n) = Some (suc n)

-- a place in the others is one further on in the list
further_by : (b : Bool) (k n : ℕ) → nat_lt k n ≡ b → cond (nat_lt (1 + k) (suc n)) (Some (1 + k)) None ≡ further (cond (nat_lt k n) (Some k) None)
further_by true k n e = grind arith
further_by false k n e = grind arith

-- the first place is in the list
first_by : (n : ℕ) → cond {A = Option ℕ} (nat_lt 0 (suc n)) (Some 0) None ≡ Some 0
first_by n = grind arith

module _ {A : Type 0} (p : A → Bool) where
  -- a list's first item passes, or the others say
  step : (x : A) (xs : List A) (b : Bool) → p x ≡ b → position p (x ∷ xs) ≡ cond b (Some 0) (further (position p xs))
  step x xs true e = rw e (first_by (length xs))
  step x xs false e = rw e (further_by (nat_lt (position_or_len p xs) (length xs)) (position_or_len p xs) (length xs) refl)

  -- one more item that doesn't pass
  none_at : (x : A) (xs : List A) (b : Bool) → p x ≡ b → (b || list_any p xs) ≡ false → (list_any p xs ≡ false → position p xs ≡ None) → position p (x ∷ xs) ≡ None
  none_at x xs true h e rest = absurd cc
  none_at x xs false h e rest = step x xs false h ∙ ap further (rest e)

  -- where none passes
  pub no_position : (xs : List A) → list_any p xs ≡ false → position p xs ≡ None
  no_position [] e = refl
  no_position (x ∷ xs) e = none_at x xs (p x) refl e (no_position xs)

  -- a place further on is a place
  further_is : (o : Option ℕ) → is_some (further o) ≡ is_some o
  further_is None = refl
  further_is (Some n) = refl

  -- one more item in front
  some_at : (x : A) (xs : List A) (b : Bool) → p x ≡ b → is_some (position p xs) ≡ list_any p xs → is_some (position p (x ∷ xs)) ≡ (b || list_any p xs)
  some_at x xs true h rest = ap (λ (o : Option ℕ). is_some o) (step x xs true h)
  some_at x xs false h rest = ap (λ (o : Option ℕ). is_some o) (step x xs false h) ∙ further_is (position p xs) ∙ rest

  -- just where one passes
  pub some_position : (xs : List A) → is_some (position p xs) ≡ list_any p xs
  some_position [] = refl
  some_position (x ∷ xs) = some_at x xs (p x) refl (some_position xs)

  abbrev last_place : Bool → ℕ → Option ℕ
  last_place b n = if b then Some n else None

  -- the last place is one further on too
  further_or : (o : Option ℕ) (b : Bool) (n : ℕ) → further (option_or o (last_place b n)) ≡ option_or (further o) (last_place b (suc n))
  further_or None true n = refl
  further_or None false n = refl
  further_or (Some k) b n = refl

  -- one more item in front of a list with one more
  more_at : (y : A) (ys : List A) (x : A) (b : Bool) → p y ≡ b → position p (ys ++ x ∷ []) ≡ option_or (position p ys) (last_place (p x) (length ys))
      → position p (y ∷ (ys ++ x ∷ [])) ≡ option_or (position p (y ∷ ys)) (last_place (p x) (suc (length ys)))
  more_at y ys x true h rest = step y (ys ++ x ∷ []) true h ∙ ap (λ (o : Option ℕ). option_or o (last_place (p x) (suc (length ys)))) (sym (step y ys true h))
  more_at y ys x false h rest =
      step y (ys ++ x ∷ []) false h
      ∙ ap further rest
      ∙ further_or (position p ys) (p x) (length ys)
      ∙ ap (λ (o : Option ℕ). option_or o (last_place (p x) (suc (length ys)))) (sym (step y ys false h))

  -- the only item
  only_at : (x : A) (b : Bool) → p x ≡ b → position p (x ∷ []) ≡ last_place b 0
  only_at x true h = step x [] true h
  only_at x false h = step x [] false h

  -- with one more
  pub position_more : (xs : List A) (x : A) → position p (xs ++ x ∷ []) ≡ option_or (position p xs) (if p x then Some (length xs) else None)
  position_more [] x = only_at x (p x) refl
  position_more (y ∷ ys) x = more_at y ys x (p y) refl (position_more ys x)
