-- The loops that read lists: one turn, the end, and what stops them.
use Rattle.std.proofs.Common.{◌≡◌, ℕ, suc, ◌+◌, ◌-◌, ◌<◌, ◌≤◌, max, Bool, true, false, List, [], ◌∷◌, ◌++◌, sym, ap, subst, ◌∙◌, refl, Ok, Err, Result, IfOk, arith}
use Rattle.std.specs.Result.{IsErrAnd}
use Rattle.bcj_parser_rules.specs.declared.kind.Mark.TheVariants as mark
use Rattle.bcj_parser_rules.specs.declared.terminal.Terminal.{Terminal}
use Rattle.bcj_parser_rules.specs.declared.stop.Stop.{Stop}
use Rattle.bcj_parser_rules.specs.declared.stop.Stop.TheVariants.{Refused, TooDeep, TooMany, NoMemory}
use Rattle.bcj_parser_rules.specs.Lexemes.{Lexemes, terminal_at}
use Rattle.bcj_parser_rules.specs.function.Steps.{Outcome, Parser, Reads, sees, rest}
use Rattle.bcj_parser_rules.specs.function.Expressions.{separated, many}

-- turns are left
pub fewer : (n at : ℕ) → at < n → n - at ≡ suc (n - (at + 1))
fewer n at h = omega arith

-- what stops a part stops the whole
pub reads_refused : {A B C D : Type 0} (view : A → B) (view' : C → D) (o : Outcome B) (p : Outcome D) (e : Stop) (a : Lexemes) → Reads view o (Err e) a → ((x : Stop) → o ≡ (Err x, a) → p ≡ (Err x, a)) → Reads view' p (Err e) a
reads_refused view view' o p (Refused w) a h f = f (Refused w) h
reads_refused view view' o p TooDeep a h f = f TooDeep h
reads_refused view view' o p TooMany a h f = f TooMany h
reads_refused view view' o p NoMemory a h f = tt

pub reads_passed : {A B C D : Type 0} (view : A → B) (view' : C → D) (o : Outcome B) (p : Outcome D) (r : Result C Stop) (e : Stop) (a : Lexemes) → IsErrAnd r (λ y. y ≡ e) → Reads view o (Err e) a → ((x : Stop) → o ≡ (Err x, a) → p ≡ (Err x, a)) → Reads view' p r a
reads_passed view view' o p (Ok x) e a g h f = absurd g
reads_passed view view' o p (Err y) e a g h f = subst (λ y. Reads view' p (Err y) a) (sym g) (reads_refused view view' o p e a h f)

-- and then nothing is said of what was read
pub nothing_read : {C : Type 0} (Q : Stop → Type 0) (P : C → Type 0) (r : Result C Stop) → IsErrAnd r Q → IfOk r P
nothing_read Q P (Ok x) g = absurd g
nothing_read Q P (Err y) g = tt

-- ---- items behind commas

-- a further item behind its comma
pub separated_turn : {A : Type 0} (one : Parser (A × ℕ)) (X : Outcome (List A × ℕ)) (n at : ℕ) (found more : List A) (high higher : ℕ) (x : A) (h : ℕ) (i a : Lexemes) → at < n
    → X ≡ separated one (n - at) found high i → true ≡ sees mark.Comma i → one (rest i) ≡ (Ok (x, h), a) → more ≡ found ++ x ∷ [] → higher ≡ max high h → X ≡ separated one (n - (at + 1)) more higher a
unfolding separated
separated_turn one X n at found more high higher x h i a b e s o f g = e ∙ ap (λ k. separated one k found high i) (fewer n at b) ∙ step (n - (at + 1))
    ∙ (λ j. separated one (n - (at + 1)) (sym f j) (sym g j) a) where
      step : (k : ℕ) → separated one (suc k) found high i ≡ separated one k (found ++ x ∷ []) (max high h) a
      step k = rw (sym s) (rw o refl)

-- no comma follows
pub separated_end : {A : Type 0} (one : Parser (A × ℕ)) (X : Outcome (List A × ℕ)) (n at : ℕ) (found : List A) (high : ℕ) (i : Lexemes) → at < n
    → X ≡ separated one (n - at) found high i → false ≡ sees mark.Comma i → X ≡ (Ok (found, high), i)
unfolding separated
separated_end one X n at found high i b e s = e ∙ ap (λ k. separated one k found high i) (fewer n at b) ∙ step (n - (at + 1)) where
  step : (k : ℕ) → separated one (suc k) found high i ≡ (Ok (found, high), i)
  step k = rw (sym s) refl

-- the item behind a comma is refused
pub separated_refused : {A : Type 0} (one : Parser (A × ℕ)) (X : Outcome (List A × ℕ)) (n at : ℕ) (found : List A) (high : ℕ) (i a : Lexemes) (e : Stop) → at < n → X ≡ separated one (n - at) found high i → true ≡ sees mark.Comma i
    → one (rest i) ≡ (Err e, a) → X ≡ (Err e, a)
unfolding separated
separated_refused one X n at found high i a e b h s o = h ∙ ap (λ k. separated one k found high i) (fewer n at b) ∙ step (n - (at + 1)) where
  step : (k : ℕ) → separated one (suc k) found high i ≡ (Err e, a)
  step k = rw (sym s) (rw o refl)

-- and then nothing is read at all
pub separated_stop : {A B C : Type 0} (one : Parser (A × ℕ)) (part : B → A × ℕ) (whole : C → List A × ℕ) (X : Outcome (List A × ℕ)) (n at : ℕ) (found : List A) (high : ℕ) (e : Stop) (i j a : Lexemes) → at < n
    → X ≡ separated one (n - at) found high i → true ≡ sees mark.Comma i → j ≡ rest i → Reads part (one j) (Err e) a → Reads whole X (Err e) a
separated_stop one part whole X n at found high e i j a b h s r o = reads_refused part whole (one j) X e a o (λ x q. separated_refused one X n at found high i a x b h s (ap one (sym r) ∙ q))

-- no turn is left
pub separated_done : {A : Type 0} (one : Parser (A × ℕ)) (X : Outcome (List A × ℕ)) (n at : ℕ) (found : List A) (high : ℕ) (i : Lexemes) → n ≤ at → X ≡ separated one (n - at) found high i → X ≡ (Ok (found, high), i)
unfolding separated
separated_done one X n at found high i b h = let z : n - at ≡ 0 = omega arith in h ∙ ap (λ k. separated one k found high i) z

-- ---- items as long as the next terminal goes on so

pub many_turn : {A : Type 0} (goes_on : Terminal → Bool) (one : Parser (List A × ℕ)) (X : Outcome (List A × ℕ)) (n at : ℕ) (found more xs : List A) (high higher h : ℕ) (i a : Lexemes) → at < n
    → X ≡ many goes_on one (n - at) found high i → true ≡ goes_on (terminal_at i) → one i ≡ (Ok (xs, h), a) → more ≡ found ++ xs → higher ≡ max high h → X ≡ many goes_on one (n - (at + 1)) more higher a
unfolding many
many_turn goes_on one X n at found more xs high higher h i a b e s o f g = e ∙ ap (λ k. many goes_on one k found high i) (fewer n at b) ∙ step (n - (at + 1))
    ∙ (λ j. many goes_on one (n - (at + 1)) (sym f j) (sym g j) a) where
      step : (k : ℕ) → many goes_on one (suc k) found high i ≡ many goes_on one k (found ++ xs) (max high h) a
      step k = rw (sym s) (rw o refl)

pub many_end : {A : Type 0} (goes_on : Terminal → Bool) (one : Parser (List A × ℕ)) (X : Outcome (List A × ℕ)) (n at : ℕ) (found : List A) (high : ℕ) (i : Lexemes) → at < n
    → X ≡ many goes_on one (n - at) found high i → false ≡ goes_on (terminal_at i) → X ≡ (Ok (found, high), i)
unfolding many
many_end goes_on one X n at found high i b e s = e ∙ ap (λ k. many goes_on one k found high i) (fewer n at b) ∙ step (n - (at + 1)) where
  step : (k : ℕ) → many goes_on one (suc k) found high i ≡ (Ok (found, high), i)
  step k = rw (sym s) refl

pub many_refused : {A : Type 0} (goes_on : Terminal → Bool) (one : Parser (List A × ℕ)) (X : Outcome (List A × ℕ)) (n at : ℕ) (found : List A) (high : ℕ) (i a : Lexemes) (e : Stop) → at < n → X ≡ many goes_on one (n - at) found high i
    → true ≡ goes_on (terminal_at i) → one i ≡ (Err e, a) → X ≡ (Err e, a)
unfolding many
many_refused goes_on one X n at found high i a e b h s o = h ∙ ap (λ k. many goes_on one k found high i) (fewer n at b) ∙ step (n - (at + 1)) where
  step : (k : ℕ) → many goes_on one (suc k) found high i ≡ (Err e, a)
  step k = rw (sym s) (rw o refl)

pub many_stop : {A B C : Type 0} (goes_on : Terminal → Bool) (one : Parser (List A × ℕ)) (part : B → List A × ℕ) (whole : C → List A × ℕ) (X : Outcome (List A × ℕ)) (n at : ℕ) (found : List A) (high : ℕ) (e : Stop) (i a : Lexemes)
    → at < n → X ≡ many goes_on one (n - at) found high i → true ≡ goes_on (terminal_at i) → Reads part (one i) (Err e) a → Reads whole X (Err e) a
many_stop goes_on one part whole X n at found high e i a b h s o = reads_refused part whole (one i) X e a o (λ x q. many_refused goes_on one X n at found high i a x b h s q)

pub many_done : {A : Type 0} (goes_on : Terminal → Bool) (one : Parser (List A × ℕ)) (X : Outcome (List A × ℕ)) (n at : ℕ) (found : List A) (high : ℕ) (i : Lexemes) → n ≤ at → X ≡ many goes_on one (n - at) found high i → X ≡ (Ok (found, high), i)
unfolding many
many_done goes_on one X n at found high i b h = let z : n - at ≡ 0 = omega arith in h ∙ ap (λ k. many goes_on one k found high i) z
