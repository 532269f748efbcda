-- What is read as an expression is one.
use Rattle.std.proofs.Common.{◌≡◌, ℕ, zero, suc, ◌+◌, ◌≤◌, ◌<◌, Bool, true, false, not, ◌||◌, [], ◌∷◌, refl, sym, subst, Some, None, Option, Err, nat_le, nat_lt, if◌then◌else◌, arith}
use Rattle.std.proofs.lemmas.Bool.{leb-true, ltb-true, ltb-false, and_parts}
use Rattle.bcj_parser_trees.specs.declared.expression.BinOp.{BinOp}
use Rattle.bcj_parser_trees.specs.Trees.{PlainExpr}
use Rattle.bcj_parser_rules.specs.declared.kind.Mark.TheVariants as mark
use Rattle.bcj_parser_rules.specs.declared.kind.Joining.{Joining}
use Rattle.bcj_parser_rules.specs.declared.kind.Joining.TheVariants as join
use Rattle.bcj_parser_rules.specs.declared.terminal.Terminal.{Terminal}
use Rattle.bcj_parser_rules.specs.declared.terminal.Terminal.TheVariants as terminal
use Rattle.bcj_parser_rules.specs.declared.stop.Site.{Site}
use Rattle.bcj_parser_rules.specs.declared.stop.Site.TheVariants as site
use Rattle.bcj_parser_rules.specs.declared.kind.Beginning.{Beginning}
use Rattle.bcj_parser_rules.specs.declared.kind.Beginning.TheVariants as begin
use Rattle.bcj_parser_rules.specs.declared.stop.Stop.TheVariants.{Refused, TooDeep}
use Rattle.bcj_parser_rules.specs.Lexemes.{Lexeme, Lexemes}
use Rattle.bcj_parser_rules.specs.Grammar as g
use Rattle.bcj_parser_rules.specs.Lexemes.{first_at}
use Rattle.bcj_parser_rules.specs.Levels.{operator_level}
use Rattle.bcj_parser_rules.specs.Grammar.{Derives, step_terminal, is_place, is_array_creation, is_statement_expression}
use Rattle.bcj_parser_rules.specs.Lexemes.{terminal_at}
use Rattle.bcj_parser_rules.specs.function.Kinds.{joining, beginning}
use Rattle.bcj_parser_rules.specs.function.Steps.{◌>>=◌, sees, pure, refuse, deep}
use Rattle.bcj_parser_rules.specs.function.Expressions.{Begin, fresh, behind_name, behind_bracket, behind_this, behind_super, Read, Inner, binds, is_primary, is_type_test, allows, dotted, chosen, joined_by, joined, climb, roomless, begins, expression, ended_by, ended, is_step, needs_selector, below_selector, first_primary, primary_from, statement_expression_from, statement_expression, follows_name, site_behind}
use Rattle.bcj_parser_soundness.proofs.Terminals.{JoinsSo, joins_so, BeginsSo, begins_so}
use Rattle.bcj_parser_soundness.proofs.Outcomes as outcome
use Rattle.bcj_parser_soundness.proofs.Outcomes.{Meets, Failed, read, refused, bind, weaken, choose, choose_by, expect_name, bind_terminal}
use Rattle.bcj_parser_soundness.proofs.Lists.{type_name_sound}
use Rattle.bcj_parser_soundness.proofs.Derived.{Begun, from_start, from_name, from_bracket, from_this, from_super, start_is_first, tall, loosen, place_is_primary, primary_level, three_to_twelve, step_evaluates}
use Rattle.bcj_parser_soundness.proofs.Operands.{Good, InnerSound, fresh_sound, arguments_sound, Operand, operand_from_sound}

-- where an operator of the levels from the conditional to the products follows, the expression before it is derived so tight,
-- but for a type test, which no tighter operator may follow
abbrev Bound : ℕ → ℕ → PlainExpr → Type 0
Bound level b x = 2 ≤ b → b ≤ 12 → (nat_le b 9 || not (is_type_test x)) ≡ true → (3 ≤ level) × (b ≤ level)

-- what was read so far, from j on
record Left (n least : ℕ) (j : Lexemes) (p : Read) (a : Lexemes) : Type 0 where
  level : ℕ
  derives : Derives level j a p.0 p.1
  high : least ≤ level
  low : p.1 ≤ suc n
  bound : Bound level (binds (joining (terminal_at a))) p.0

record Next (n least : ℕ) (j : Lexemes) (l p : Read) (a : Lexemes) : Type 0 where
  left : Left n least j p a
  higher : l.1 < p.1

-- what may be a statement
pub record Evaluated (n : ℕ) (j : Lexemes) (p : Read) (a : Lexemes) : Type 0 where
  pub derives : Derives 1 j a p.0 p.1
  pub low : p.1 ≤ n
  pub evaluates : is_statement_expression p.0 ≡ true

joined_if : {P : Read → Lexemes → Type 0} (n : ℕ) (inner : Inner) (at : ℕ) (l : Read) (k : Joining) (i : Lexemes) → (allows k l.0 ≡ true → l.1 ≤ n → Meets P Failed (joined_by n inner at l k i))
    → Meets P Failed (joined n inner at l k i)
unfolding joined
joined_if {P} n inner at l k i f = by (allows k l.0) (nat_le l.1 n) refl refl where
  by : (x y : Bool) → allows k l.0 ≡ x → nat_le l.1 n ≡ y → Meets P Failed ((if x then (if y then joined_by n inner at l k else deep) else refuse site.Elsewhere) i)
  by true true e h = f e (leb-true l.1 n h)
  by true false e h = outcome.roomless
  by false y e h = refused

-- ---- one operator and what is behind it

record Assigned (n : ℕ) (j : Lexemes) (l p : Read) (a : Lexemes) : Type 0 where
  derives : Derives 1 j a p.0 p.1
  low : p.1 ≤ suc n
  higher : l.1 < p.1
  stops : binds (joining (terminal_at a)) < 1
  evaluates : is_statement_expression p.0 ≡ true

assigned_sound : (n : ℕ) (inner : Inner) → InnerSound n inner → (j : Lexemes) (l : Read) (t : Lexeme) (i : Lexemes) (o : Option BinOp) → JoinsSo (join.Assign o) t.terminal → Derives 14 j (t ∷ i) l.0 l.1
    → is_place l.0 ≡ true → l.1 ≤ n → Meets (Assigned n j l) Failed (joined_by n inner (first_at j) l (join.Assign o) (t ∷ i))
assigned_sound n inner h j l t i None e d p low = bind (fresh_sound n inner h 1 (omega arith) i)
    (λ r a q. read (record { derives = g.assign d p e q.derives; low = omega (arith, q.low); higher = omega arith; stops = q.stops; evaluates = refl }))
assigned_sound n inner h j l t i (Some o) e d p low = bind (fresh_sound n inner h 1 (omega arith) i)
    (λ r a q. read (record { derives = g.compound d p e q.derives; low = omega (arith, q.low); higher = omega arith; stops = q.stops; evaluates = refl }))

high_of : {n least : ℕ} {j a : Lexemes} {p : Read} (k : ℕ) → 13 ≤ k → least ≤ k → Derives k j a p.0 p.1 → p.1 ≤ suc n → Left n least j p a
high_of k e l d low = record { level = k; derives = d; high = l; low = low; bound = λ f q r. (omega arith, omega arith) }

conditional_sound : (n least : ℕ) (inner : Inner) → InnerSound n inner → least ≤ 2 → (j : Lexemes) (l : Read) (t : Lexeme) (i : Lexemes) → t.terminal ≡ terminal.Question → Derives 3 j (t ∷ i) l.0 l.1 → l.1 ≤ n
    → Meets (Next n least j l) Failed (chosen inner (first_at j) l i)
unfolding chosen
conditional_sound n least inner h le j l t i e d low = bind_terminal mark.Colon (λ _. site.Elsewhere) (fresh_sound n inner h 1 (omega arith) i) (λ x u f k q. bind (fresh_sound n inner h 2 (omega arith) k)
    (λ y a r. read (record { left = record { level = 2; derives = g.conditional d e q.derives f r.derives; high = le; low = omega (arith, q.low, r.low); bound = λ b c w. absurd (omega (arith, r.stops)) }; higher = omega arith })))

binary_sound : (n least : ℕ) (inner : Inner) → InnerSound n inner → (o : BinOp) → least ≤ operator_level o → (j : Lexemes) (l : Read) (t : Lexeme) (i : Lexemes) → t.terminal ≡ terminal.Operator o
    → Derives (operator_level o) j (t ∷ i) l.0 l.1 → l.1 ≤ n → Meets (Next n least j l) Failed (joined_by n inner (first_at j) l (join.Binary o) (t ∷ i))
binary_sound n least inner h o le j l t i e d low =
    let q : (3 ≤ operator_level o) × (operator_level o ≤ 12) = three_to_twelve o in
    bind (fresh_sound n inner h (suc (operator_level o)) (omega arith) i) (λ y a r. read (record {
      left = record { level = operator_level o; derives = g.binary d e r.derives; high = le; low = omega (arith, r.low); bound = λ b c w. (q.0, omega (arith, r.stops)) };
      higher = omega arith;
    }))

instance_sound : (n least : ℕ) (inner : Inner) → least ≤ 9 → (j : Lexemes) (l : Read) (t : Lexeme) (i : Lexemes) → t.terminal ≡ terminal.InstanceOf → Derives 9 j (t ∷ i) l.0 l.1 → l.1 ≤ n
    → Meets (Next n least j l) Failed (joined_by n inner (first_at j) l join.InstanceOf (t ∷ i))
instance_sound n least inner le j l t i e d low = bind (type_name_sound n site.Elsewhere i) (λ ty a r. read (record {
  left = record { level = 9; derives = g.instance_of d e r.read; high = le; low = omega (arith, r.low); bound = λ b c w. (omega arith, within (binds (joining (terminal_at a))) w) };
  higher = omega arith;
})) where
  within : (b : ℕ) → (nat_le b 9 || false) ≡ true → b ≤ 9
  within b w = by (nat_le b 9) refl w where
    by : (x : Bool) → nat_le b 9 ≡ x → (x || false) ≡ true → b ≤ 9
    by true f w = leb-true b 9 f
    by false f w = absurd (cc)

dotted_sound : (n least : ℕ) (inner : Inner) → InnerSound n inner → least ≤ 14 → (j : Lexemes) (l : Read) (t u : Lexeme) → t.terminal ≡ terminal.Dot → u.terminal ≡ terminal.Identifier → l.1 ≤ n
    → (i : Lexemes) → Derives 14 j (t ∷ u ∷ i) l.0 l.1 → Meets (Next n least j l) Failed (dotted inner (first_at j) l u.word i)
unfolding dotted
dotted_sound n least inner h le j l t u e f low = choose_by (λ i. Derives 14 j (t ∷ u ∷ i) l.0 l.1) mark.LeftParen _ _
    (λ v k i d. bind (arguments_sound n inner h (v ∷ i)) (λ es a q. read (record { left = high_of 14 (omega arith) le (g.dot_call d e f q.read) (omega (arith, q.low)); higher = omega arith })))
    (λ i d. read (record { left = high_of 14 (omega arith) le (g.dot d e f) (omega arith); higher = omega arith }))

-- behind a dot
member_sound : (n least : ℕ) (inner : Inner) → InnerSound n inner → least ≤ 14 → (j : Lexemes) (l : Read) (t : Lexeme) → t.terminal ≡ terminal.Dot → l.1 ≤ n
    → (i : Lexemes) → Derives 14 j (t ∷ i) l.0 l.1 → Meets (Next n least j l) Failed (joined_by n inner (first_at j) l join.Dot (t ∷ i))
member_sound n least inner h le j l t e low = outcome.name_behind (λ i. Derives 14 j (t ∷ i) l.0 l.1) site.Elsewhere _ (λ u f i d. dotted_sound n least inner h le j l t u e f low i d)

element_sound : (n least : ℕ) (inner : Inner) → InnerSound n inner → least ≤ 14 → (j : Lexemes) (l : Read) (t : Lexeme) (i : Lexemes) → t.terminal ≡ terminal.LeftBracket → is_array_creation l.0 ≡ false
    → Derives 14 j (t ∷ i) l.0 l.1 → l.1 ≤ n → Meets (Next n least j l) Failed (joined_by n inner (first_at j) l join.Bracket (t ∷ i))
element_sound n least inner h le j l t i e na d low = bind_terminal mark.RightBracket (λ _. site.Elsewhere) (fresh_sound n inner h 1 (omega arith) i)
    (λ y u f a q. read (record { left = high_of 14 (omega arith) le (g.element d na e q.derives f) (omega (arith, q.low)); higher = omega arith }))

not_true : (x : Bool) → not x ≡ true → x ≡ false
not_true true h = absurd (cc)
not_true false h = refl

joined_sound : (n least : ℕ) (inner : Inner) → InnerSound n inner → (j : Lexemes) (l : Read) (i : Lexemes) → Left n least j l i → least ≤ binds (joining (terminal_at i))
    → Meets (Next n least j l) Failed (joined n inner (first_at j) l (joining (terminal_at i)) i)
joined_sound n least inner h j l [] left le = joined_if n inner (first_at j) l join.Nothing [] (λ e low. refused)
joined_sound n least inner h j l (t ∷ i) left le = by (joining t.terminal) (joins_so t.terminal) le left.bound where
  by : (k : Joining) → JoinsSo k t.terminal → least ≤ binds k → Bound left.level (binds k) l.0 → Meets (Next n least j l) Failed (joined n inner (first_at j) l k (t ∷ i))
  by (join.Assign o) e le b = joined_if n inner (first_at j) l (join.Assign o) (t ∷ i) (λ p low.
      weaken (assigned_sound n inner h j l t i o e (primary_level left.derives (place_is_primary l.0 p)) p low)
      (λ x a q. record { left = record { level = 1; derives = q.derives; high = le; low = q.low; bound = λ f c w. absurd (omega (arith, q.stops)) }; higher = q.higher }))
  by join.Question e le b = joined_if n inner (first_at j) l join.Question (t ∷ i) (λ p low.
      conditional_sound n least inner h le j l t i e (loosen 3 left.level (b (omega arith) (omega arith) refl).0 left.derives) low)
  by (join.Binary o) e le b = joined_if n inner (first_at j) l (join.Binary o) (t ∷ i) (λ p low.
      let q : (3 ≤ operator_level o) × (operator_level o ≤ 12) = three_to_twelve o in
      binary_sound n least inner h o le j l t i e (loosen (operator_level o) left.level (b (omega arith) q.1 p).1 left.derives) low)
  by join.InstanceOf e le b = joined_if n inner (first_at j) l join.InstanceOf (t ∷ i) (λ p low.
      instance_sound n least inner le j l t i e (loosen 9 left.level (b (omega arith) (omega arith) refl).1 left.derives) low)
  by (join.Step plus) e le b = joined_if n inner (first_at j) l (join.Step plus) (t ∷ i) (λ p low.
      read (record { left = high_of 13 (omega arith) le (g.step_behind (primary_level left.derives (place_is_primary l.0 p)) p e) (omega arith); higher = omega arith }))
  by join.Dot e le b = joined_if n inner (first_at j) l join.Dot (t ∷ i) (λ p low. member_sound n least inner h le j l t e low i (primary_level left.derives p))
  by join.Bracket e le b = joined_if n inner (first_at j) l join.Bracket (t ∷ i) (λ p low.
      let q : (is_primary l.0 ≡ true) × (not (is_array_creation l.0) ≡ true) = and_parts (is_primary l.0) (not (is_array_creation l.0)) p in
      element_sound n least inner h le j l t i e (not_true (is_array_creation l.0) q.1) (primary_level left.derives q.0) low)
  by join.Nothing e le b = joined_if n inner (first_at j) l join.Nothing (t ∷ i) (λ p low. refused)

climb_sound : (n least : ℕ) (inner : Inner) → InnerSound n inner → (j : Lexemes) (turns : ℕ) (l : Read) (i : Lexemes) → Left n least j l i → suc (suc n) ≤ turns + l.1
    → Meets (Good (suc n) least j) Failed (climb n inner turns least (first_at j) l i)
unfolding climb
climb_sound n least inner h j zero l i left room = absurd (omega (arith, left.low))
climb_sound n least inner h j (suc turns) l i left room = by (climb_sound n least inner h j turns) (nat_lt (binds (joining (terminal_at i))) least) refl where
  by : ((l : Read) (i : Lexemes) → Left n least j l i → suc (suc n) ≤ turns + l.1 → Meets (Good (suc n) least j) Failed (climb n inner turns least (first_at j) l i))
      → (x : Bool) → nat_lt (binds (joining (terminal_at i))) least ≡ x
      → Meets (Good (suc n) least j) Failed ((if x then pure l else (joined n inner (first_at j) l (joining (terminal_at i)) >>= climb n inner turns least (first_at j))) i)
  by next true e = read (record { derives = loosen least left.level left.high left.derives; low = left.low; stops = ltb-true (binds (joining (terminal_at i))) least e })
  by next false e = bind (joined_sound n least inner h j l i left (ltb-false (binds (joining (terminal_at i))) least e)) (λ x a q. next x a q.left (omega (arith, q.higher)))

roomless_sound : {P : Read → Lexemes → Type 0} (b : Begin) (least : ℕ) (i : Lexemes) → Meets P Failed (roomless b least i)
roomless_sound {P} fresh least i = by (begins least (beginning (terminal_at i))) where
  by : (x : Bool) → Meets P Failed ((if x then deep else refuse site.Elsewhere) i)
  by true = outcome.roomless
  by false = refused
roomless_sound (behind_name at x) least i = outcome.roomless
roomless_sound (behind_bracket at x) least i = outcome.roomless
roomless_sound (behind_this at) least i = outcome.roomless
roomless_sound (behind_super at) least i = outcome.roomless

climbed_sound : (n least : ℕ) (inner : Inner) → InnerSound n inner → (j : Lexemes) (l : Read) (i : Lexemes) → Operand n least j l i → Meets (Good (suc n) least j) Failed (climb n inner (suc n) least (first_at j) l i)
climbed_sound n least inner h j l i q = climb_sound n least inner h j (suc n) l i (high_of q.level q.tight q.high q.derives q.low) (omega (arith, tall q.derives))

pub expression_sound : (n : ℕ) → InnerSound n (expression n)
unfolding expression
expression_sound zero b least j i le d = roomless_sound b least i
expression_sound (suc n) b least j i le d = bind (operand_from_sound n least (expression n) (expression_sound n) le d)
    (λ l a q. subst (λ at. Meets (Good (suc n) least j) Failed (climb n (expression n) (suc n) least at l a)) (sym (start_is_first d)) (climbed_sound n least (expression n) (expression_sound n) j l a q))

-- ---- expressions that are statements

roomless_by : {P : Read → Lexemes → Type 0} (w : Site) (i : Lexemes) (x : Bool) → Meets P Failed ((if x then deep else refuse w) i)
roomless_by w i true = outcome.roomless
roomless_by w i false = refused

roomless_at : {P : Read → Lexemes → Type 0} (w : Site) (i : Lexemes) (x : Bool) → Meets P Failed (if x then (Err TooDeep, i) else (Err (Refused w), i))
roomless_at w i true = outcome.roomless
roomless_at w i false = refused

evaluated_if : (n : ℕ) (j : Lexemes) (l : Read) (i : Lexemes) → Derives 14 j i l.0 l.1 → l.1 ≤ n → (w : Site) → Meets (Evaluated n j) Failed ((if is_statement_expression l.0 then pure l else refuse w) i)
evaluated_if n j l i d low w = by (is_statement_expression l.0) refl where
  by : (x : Bool) → is_statement_expression l.0 ≡ x → Meets (Evaluated n j) Failed ((if x then pure l else refuse w) i)
  by true e = read (record { derives = loosen 1 14 (omega arith) d; low = low; evaluates = e })
  by false e = refused

ended_sound : (n : ℕ) (w : Site) (j : Lexemes) (l : Read) (i : Lexemes) → Good (suc n) 14 j l i → Meets (Evaluated (suc n) j) Failed (ended n (expression n) (first_at j) w l i)
unfolding ended
ended_sound n w j l [] q = evaluated_if (suc n) j l [] q.derives q.low (site_behind w l.0)
ended_sound n w j l (t ∷ i) q = by (joining t.terminal) (joins_so t.terminal) where
  by : (k : Joining) → JoinsSo k t.terminal → Meets (Evaluated (suc n) j) Failed (ended_by n (expression n) (first_at j) w l k (t ∷ i))
  by (join.Assign o) e = joined_if n (expression n) (first_at j) l (join.Assign o) (t ∷ i) (λ p low. weaken (assigned_sound n (expression n) (expression_sound n) j l t i o e q.derives p low)
      (λ x a r. record { derives = r.derives; low = r.low; evaluates = r.evaluates }))
  by (join.Step plus) e = joined_if n (expression n) (first_at j) l (join.Step plus) (t ∷ i) (λ p low.
      read (record { derives = loosen 1 13 (omega arith) (g.step_behind q.derives p e); low = omega arith; evaluates = refl }))
  by join.Question e = evaluated_if (suc n) j l (t ∷ i) q.derives q.low (site_behind w l.0)
  by (join.Binary o) e = evaluated_if (suc n) j l (t ∷ i) q.derives q.low (site_behind w l.0)
  by join.InstanceOf e = evaluated_if (suc n) j l (t ∷ i) q.derives q.low (site_behind w l.0)
  by join.Dot e = evaluated_if (suc n) j l (t ∷ i) q.derives q.low (site_behind w l.0)
  by join.Bracket e = evaluated_if (suc n) j l (t ∷ i) q.derives q.low (site_behind w l.0)
  by join.Nothing e = evaluated_if (suc n) j l (t ∷ i) q.derives q.low (site_behind w l.0)

from_sound : (n : ℕ) (b : Begin) (w : Site) {j i : Lexemes} → Begun b j i → Meets (Good (suc n) 14 j) Failed (primary_from n b i) → Meets (Evaluated (suc n) j) Failed (statement_expression_from n b w i)
from_sound n b w {j} {i} d h = bind h (λ l a q. subst (λ at. Meets (Evaluated (suc n) j) Failed (ended n (expression n) at w l a)) (sym (start_is_first d)) (ended_sound n w j l a q))

below_selector_sound : (n : ℕ) (i : Lexemes) → Meets (Operand n 14 i) Failed (below_selector n (first_at i) i)
unfolding below_selector
below_selector_sound zero i = outcome.roomless
below_selector_sound (suc n) i = weaken (operand_from_sound n 14 (expression n) (expression_sound n) (omega arith) from_start)
    (λ x a q. record { level = q.level; derives = q.derives; high = q.high; tight = q.tight; low = omega (arith, q.low) })

first_primary_sound : (n : ℕ) (i : Lexemes) → Meets (Good (suc n) 14 i) Failed (first_primary n i)
unfolding first_primary
first_primary_sound n i = by (needs_selector (beginning (terminal_at i))) where
  by : (x : Bool) → Meets (Good (suc n) 14 i) Failed (if x then (below_selector n (first_at i) >>= climb n (expression n) (suc n) 14 (first_at i)) i else expression (suc n) fresh 14 i)
  by true = bind (below_selector_sound n i) (λ l a q. climbed_sound n 14 (expression n) (expression_sound n) i l a q)
  by false = expression_sound (suc n) fresh 14 i i (omega arith) from_start

step_of : (k : Terminal) → is_step (beginning k) ≡ true → (plus : Bool) × (step_terminal k ≡ Some plus)
step_of k h = by (beginning k) (begins_so k) h where
  by : (b : Beginning) → BeginsSo b k → is_step b ≡ true → (plus : Bool) × (step_terminal k ≡ Some plus)
  by (begin.Stepped plus) e h = (plus, e)
  by _ e h = absurd (cc)

pub statement_expression_sound : (n : ℕ) (w : Site) {b : Begin} {j i : Lexemes} → Begun b j i → Meets (Evaluated n j) Failed (statement_expression n b w i)
unfolding statement_expression
statement_expression_sound zero w (from_start {i}) = roomless_by site.Elsewhere i (begins 14 (beginning (terminal_at i)) || is_step (beginning (terminal_at i)))
statement_expression_sound zero w (from_name {t} {i} e) = roomless_at w i (follows_name (terminal_at i) || sees mark.LeftParen i)
statement_expression_sound zero w (from_bracket e f) = outcome.roomless
statement_expression_sound zero w (from_this {t} {i} e) = roomless_at site.Elsewhere i (sees mark.Dot i || sees mark.LeftBracket i)
statement_expression_sound zero w (from_super {t} {i} e) = roomless_at site.Elsewhere i (sees mark.Dot i)
statement_expression_sound (suc n) w (from_start {i}) = by (is_step (beginning (terminal_at i))) refl where
  by : (x : Bool) → is_step (beginning (terminal_at i)) ≡ x → Meets (Evaluated (suc n) i) Failed (if x then expression (suc n) fresh 13 i else statement_expression_from n fresh w i)
  by true e = weaken (expression_sound (suc n) fresh 13 i i (omega arith) from_start)
      (λ x a q. record { derives = loosen 1 13 (omega arith) q.derives; low = q.low; evaluates = step_evaluates q.derives (omega arith) (step_of (terminal_at i) e).1 })
  by false e = from_sound n fresh w from_start (first_primary_sound n i)
statement_expression_sound (suc n) w (from_name {t} e) = from_sound n (behind_name t.at t.word) w (from_name e) (expression_sound (suc n) _ 14 _ _ (omega arith) (from_name e))
statement_expression_sound (suc n) w (from_bracket {t} e f) = from_sound n (behind_bracket t.at t.word) w (from_bracket e f) (expression_sound (suc n) _ 14 _ _ (omega arith) (from_bracket e f))
statement_expression_sound (suc n) w (from_this {t} e) = from_sound n (behind_this t.at) w (from_this e) (expression_sound (suc n) _ 14 _ _ (omega arith) (from_this e))
statement_expression_sound (suc n) w (from_super {t} e) = from_sound n (behind_super t.at) w (from_super e) (expression_sound (suc n) _ 14 _ _ (omega arith) (from_super e))
