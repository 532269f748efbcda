-- A turn of a loop, and a step of a recursion on the room.
use Rattle.std.proofs.Common.{◌≡◌, ℕ, zero, suc, ◌+◌, ◌-◌, ◌<◌, ◌≤◌, ap, ◌∙◌, sym, refl, Bool, true, false, nat_lt, List, [], ◌∷◌, ◌++◌, map, Result, Ok, Err, if◌then◌else◌, arith}
use Rattle.std.proofs.lemmas.Bool.{ltb-true, ltb-false}
use Rattle.bcj_parser_rules.specs.declared.kind.Joining.{Joining}
use Rattle.bcj_parser_rules.specs.declared.kind.Mark.TheVariants as mark
use Rattle.bcj_parser_rules.specs.declared.stop.Site.{Site}
use Rattle.bcj_parser_rules.specs.declared.stop.Site.TheVariants as site
use Rattle.bcj_parser_rules.specs.declared.stop.Stop.{Stop}
use Rattle.bcj_parser_rules.specs.declared.stop.Stop.TheVariants.{Refused, TooDeep}
use Rattle.bcj_parser_rules.specs.Lexemes.{Lexemes}
use Rattle.bcj_parser_rules.specs.Lexemes.{terminal_at}
use Rattle.bcj_parser_rules.specs.function.Kinds.{beginning, joining}
use Rattle.bcj_parser_rules.specs.function.Steps.{Outcome, then_read, sees, deep, refuse, rest, expect}
use Rattle.bcj_parser_rules.specs.function.Expressions.{Read, Inner, brackets, fresh, begins, binds, joined, climb, expression}

pub one_more : {X : Type 0} {x : X} (f : ℕ → X) (n at : ℕ) → at < n → x ≡ f (n - at) → x ≡ f (suc (n - (at + 1)))
one_more f n at below e = let turn : n - at ≡ suc (n - (at + 1)) = omega arith in e ∙ ap f turn

pub deeper : {X : Type 0} (f : ℕ → X) (n : ℕ) → 0 < n → f n ≡ f (suc (n - 1))
deeper f n some = let e : n ≡ suc (n - 1) = omega arith in ap f e

-- a further pair of brackets
pub brackets_step : (w : Site) (n d : ℕ) (i j a : Lexemes) → 0 < n → true ≡ sees mark.LeftBracket i → j ≡ rest i → expect mark.RightBracket w j ≡ (Ok tt, a) → brackets w n d i ≡ brackets w (n - 1) (d + 1) a
unfolding brackets
brackets_step w zero d i j a h s r o = absurd (omega arith)
brackets_step w (suc n) d i j a h s r o = let one : n ≡ suc n - 1 = omega arith in let more : suc d ≡ d + 1 = omega arith in
    rw (sym s) (rw (sym r) (rw o (λ k. brackets w (one k) (more k) a)))

pub map_push : {A B : Type 0} (f : A → B) (xs : List A) (x : A) → map f (xs ++ x ∷ []) ≡ map f xs ++ f x ∷ []
map_push f [] x = refl
map_push f (y ∷ xs) x = ap (λ l. f y ∷ l) (map_push f xs x)

-- nothing that binds so tight follows an operand
pub climb_end : (n : ℕ) (inner : Inner) (least at : ℕ) (l : Read) (X : Outcome Read) (end turn : ℕ) (i : Lexemes) (j : Joining) → turn < end → X ≡ climb n inner (end - turn) least at l i → j ≡ joining (terminal_at i)
    → nat_lt (binds j) least ≡ true → X ≡ (Ok l, i)
unfolding climb
climb_end n inner least at l X end turn i j b e s h = one_more (λ k. climb n inner k least at l i) end turn b e ∙ step (end - (turn + 1)) where
  step : (k : ℕ) → climb n inner (suc k) least at l i ≡ (Ok l, i)
  step k = rw (sym s) (rw h refl)

-- what follows an operand
pub climb_on : (n : ℕ) (inner : Inner) (least at : ℕ) (l : Read) (X : Outcome Read) (end turn : ℕ) (i : Lexemes) (j : Joining) → turn < end → X ≡ climb n inner (end - turn) least at l i → j ≡ joining (terminal_at i)
    → nat_lt (binds j) least ≡ false → X ≡ then_read (joined n inner at l j i) (climb n inner (end - (turn + 1)) least at)
unfolding climb
climb_on n inner least at l X end turn i j b e s h = one_more (λ k. climb n inner k least at l i) end turn b e ∙ step (end - (turn + 1)) where
  step : (k : ℕ) → climb n inner (suc k) least at l i ≡ then_read (joined n inner at l j i) (climb n inner k least at)
  step k = rw (sym s) (rw h refl)

pub below : (a b : ℕ) → a < b → nat_lt a b ≡ true
below a b h = by (nat_lt a b) refl where
  by : (t : Bool) → nat_lt a b ≡ t → nat_lt a b ≡ true
  by true e = e
  by false e = absurd (omega (arith, h, ltb-false a b e))

pub not_below : (a b : ℕ) → b ≤ a → nat_lt a b ≡ false
not_below a b h = by (nat_lt a b) refl where
  by : (t : Bool) → nat_lt a b ≡ t → nat_lt a b ≡ false
  by true e = absurd (omega (arith, h, ltb-true a b e))
  by false e = e

-- where an expression is read there is room for it
pub some_room : (n least : ℕ) (i : Lexemes) (x : Read) (a : Lexemes) → expression n fresh least i ≡ (Ok x, a) → 0 < n
unfolding expression
some_room zero least i x a e = none (begins least (beginning (terminal_at i))) e where
  none : (b : Bool) → ◌≡◌ {A = Outcome Read} ((if b then deep else refuse site.Elsewhere) i) (Ok x, a) → 0 < 0
  none true h = let f : ◌≡◌ {A = Result Read Stop} (Err TooDeep) (Ok x) = ap (λ p. p.0) h in absurd (cc)
  none false h = let f : ◌≡◌ {A = Result Read Stop} (Err (Refused site.Elsewhere)) (Ok x) = ap (λ p. p.0) h in absurd (cc)
some_room (suc n) least i x a e = omega arith
