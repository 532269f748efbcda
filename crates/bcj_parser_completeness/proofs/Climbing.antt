-- The loop over what may follow an operand
use Rattle.std.proofs.Common.{◌≡◌, refl, ap, ◌∙◌, ℕ, zero, suc, ◌+◌, ◌<◌, ◌≤◌, Bool, true, false, if◌then◌else◌, ◌∷◌, Ok, arith}
use Rattle.std.proofs.lemmas.Bool.{le-leb, lt-ltb, le-ltb}
use Rattle.bcj_parser_trees.specs.Trees.{PlainExpr}
use Rattle.bcj_parser_rules.specs.declared.kind.Beginning.{Beginning}
use Rattle.bcj_parser_rules.specs.declared.kind.Joining.{Joining}
use Rattle.bcj_parser_rules.specs.Lexemes.{Lexeme, Lexemes}
use Rattle.bcj_parser_rules.specs.Lexemes.{first_at}
use Rattle.bcj_parser_rules.specs.Lexemes.{terminal_at}
use Rattle.bcj_parser_rules.specs.function.Kinds.{beginning, joining}
use Rattle.bcj_parser_rules.specs.function.Steps.{Outcome, Parser, ◌>>=◌}
use Rattle.bcj_parser_rules.specs.function.Expressions.{fresh, Read, Inner, binds, allows, operand, operand_by, joined_by, joined, climb_by, climb, expression, below_selector}
use Rattle.bcj_parser_completeness.proofs.Steps.{bind}

-- a choice between parsers
pub taking_at : {A : Type 0} {b : Bool} {i : Lexemes} {o : Outcome A} → b ≡ true → (p q : Parser A) → p i ≡ o → (if b then p else q) i ≡ o
taking_at {i = i} h p q k = ap (λ b. (if b then p else q) i) h ∙ k

pub passing_at : {A : Type 0} {b : Bool} {i : Lexemes} {o : Outcome A} → b ≡ false → (p q : Parser A) → q i ≡ o → (if b then p else q) i ≡ o
passing_at {i = i} h p q k = ap (λ b. (if b then p else q) i) h ∙ k

pub operand_as : (n : ℕ) (inner : Inner) (least at : ℕ) (t : Lexeme) (m : Lexemes) {o : Outcome Read} (b : Beginning) → beginning t.terminal ≡ b → operand_by n inner least at b (t ∷ m) ≡ o → operand n inner least at (t ∷ m) ≡ o
unfolding operand
operand_as n inner least at t m b e h = ap (λ k. operand_by n inner least at k (t ∷ m)) e ∙ h

-- the parser is in its loop, behind the tree and with turns left for its room
pub record Reaches (n least : ℕ) (i a : Lexemes) (x : PlainExpr) (h : ℕ) : Type 0 where
  pub turns : ℕ
  pub room : suc n ≤ turns + h
  pub reads : expression (suc n) fresh least i ≡ climb n (expression n) turns least (first_at i) (x, h) a

pub from_operand : (n least : ℕ) (i a : Lexemes) (x : PlainExpr) (h : ℕ) → operand n (expression n) least (first_at i) i ≡ (Ok (x, h), a) → Reaches n least i a x h
unfolding expression
from_operand n least i a x h e = record { turns = suc n; room = omega arith; reads = bind e _ refl }

pub climb_stops : (n : ℕ) (inner : Inner) (turns least at : ℕ) (l : Read) (a : Lexemes) → binds (joining (terminal_at a)) < least → climb n inner turns least at l a ≡ (Ok l, a)
unfolding climb
climb_stops n inner zero least at l a b = refl
climb_stops n inner (suc turns) least at l a b = taking_at (lt-ltb (binds (joining (terminal_at a))) least b) _ _ refl

pub finish : {n least : ℕ} {i a : Lexemes} {x : PlainExpr} {h : ℕ} → Reaches n least i a x h → binds (joining (terminal_at a)) < least → expression (suc n) fresh least i ≡ (Ok (x, h), a)
finish {n = n} {least = least} {i = i} {a = a} {x = x} {h = h} r b = r.reads ∙ climb_stops n (expression n) r.turns least (first_at i) (x, h) a b

pub joined_reads : (n : ℕ) (inner : Inner) (at : ℕ) (l : Read) (j : Joining) (i : Lexemes) {o : Outcome Read} → allows j l.0 ≡ true → l.1 ≤ n → joined_by n inner at l j i ≡ o → joined n inner at l j i ≡ o
unfolding joined
joined_reads n inner at l j i a low h = taking_at a _ _ (taking_at (le-leb l.1 n low) _ _ h)

climb_turns : (n : ℕ) (inner : Inner) (turns least at : ℕ) (l x : Read) (t : Lexeme) (m a : Lexemes) (j : Joining) → joining t.terminal ≡ j → least ≤ binds j → joined n inner at l j (t ∷ m) ≡ (Ok x, a)
    → climb n inner (suc turns) least at l (t ∷ m) ≡ climb n inner turns least at x a
unfolding climb
climb_turns n inner turns least at l x t m a j e b h = ap (λ k. climb_by (climb n inner turns least at) n inner least at l k (t ∷ m)) e ∙ passing_at (le-ltb (binds j) least b) _ _ (bind h _ refl)

-- one turn of the loop, over an operator and what stands behind it
pub go_on : {n least : ℕ} {i m a : Lexemes} {t : Lexeme} {l x : PlainExpr} {g h : ℕ} (j : Joining) → Reaches n least i (t ∷ m) l g → joining t.terminal ≡ j → least ≤ binds j → allows j l ≡ true → g ≤ n → suc g ≤ h
    → joined_by n (expression n) (first_at i) (l, g) j (t ∷ m) ≡ (Ok (x, h), a) → Reaches n least i a x h
go_on {n = n} {least = least} {i = i} {m = m} {a = a} {t = t} {l = l} {x = x} {g = g} {h = h} j r e b w low high o = by r.turns r.room r.reads where
  by : (turns : ℕ) → suc n ≤ turns + g → expression (suc n) fresh least i ≡ climb n (expression n) turns least (first_at i) (l, g) (t ∷ m) → Reaches n least i a x h
  by zero room reads = absurd (omega arith)
  by (suc turns) room reads = record {
    turns = turns;
    room = omega arith;
    reads = reads ∙ climb_turns n (expression n) turns least (first_at i) (l, g) (x, h) t m a j e b (joined_reads n (expression n) (first_at i) (l, g) j (t ∷ m) w low o);
  }

-- in a room that is enough
pub at_room : (n least : ℕ) {i a : Lexemes} {x : PlainExpr} {h : ℕ} → 1 ≤ h → h ≤ n → ((k : ℕ) → h ≤ suc k → Reaches k least i a x h) → binds (joining (terminal_at a)) < least → expression n fresh least i ≡ (Ok (x, h), a)
at_room zero least p l f b = absurd (omega arith)
at_room (suc n) least p l f b = finish (f n l) b

-- the same where the operand stands below a selector
pub record Selects (n : ℕ) (i a : Lexemes) (x : PlainExpr) (h : ℕ) : Type 0 where
  pub turns : ℕ
  pub room : suc n ≤ turns + h
  pub reads : (below_selector n (first_at i) >>= climb n (expression n) (suc n) 14 (first_at i)) i ≡ climb n (expression n) turns 14 (first_at i) (x, h) a

pub from_selected : (n : ℕ) (i a : Lexemes) (x : PlainExpr) (h : ℕ) → operand n (expression n) 14 (first_at i) i ≡ (Ok (x, h), a) → Selects (suc n) i a x h
unfolding below_selector
from_selected n i a x h e = record { turns = suc (suc n); room = omega arith; reads = bind e _ refl }

pub selected : {n : ℕ} {i a : Lexemes} {x : PlainExpr} {h : ℕ} → Selects n i a x h → binds (joining (terminal_at a)) < 14 → (below_selector n (first_at i) >>= climb n (expression n) (suc n) 14 (first_at i)) i ≡ (Ok (x, h), a)
selected {n = n} {i = i} {a = a} {x = x} {h = h} r b = r.reads ∙ climb_stops n (expression n) r.turns 14 (first_at i) (x, h) a b

pub select_on : {n : ℕ} {i m a : Lexemes} {t : Lexeme} {l x : PlainExpr} {g h : ℕ} (j : Joining) → Selects n i (t ∷ m) l g → joining t.terminal ≡ j → 14 ≤ binds j → allows j l ≡ true → g ≤ n → suc g ≤ h
    → joined_by n (expression n) (first_at i) (l, g) j (t ∷ m) ≡ (Ok (x, h), a) → Selects n i a x h
select_on {n = n} {i = i} {m = m} {a = a} {t = t} {l = l} {x = x} {g = g} {h = h} j r e b w low high o = by r.turns r.room r.reads where
  by : (turns : ℕ) → suc n ≤ turns + g → (below_selector n (first_at i) >>= climb n (expression n) (suc n) 14 (first_at i)) i ≡ climb n (expression n) turns 14 (first_at i) (l, g) (t ∷ m) → Selects n i a x h
  by zero room reads = absurd (omega arith)
  by (suc turns) room reads = record {
    turns = turns;
    room = omega arith;
    reads = reads ∙ climb_turns n (expression n) turns 14 (first_at i) (l, g) (x, h) t m a j e b (joined_reads n (expression n) (first_at i) (l, g) j (t ∷ m) w low o);
  }
