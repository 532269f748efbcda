-- Behind tokens of an expression that were taken the reading goes on as from its first token
use Rattle.std.proofs.Common.{◌≡◌, refl, ap, sym, ◌∙◌, subst, ℕ, zero, suc, ◌+◌, ◌<◌, ◌≤◌, Bool, true, false, nat_le, nat_lt, if◌then◌else◌, List, ◌∷◌, Result, Ok, Err, arith}
use Rattle.std.proofs.lemmas.Bool.{le-ltb}
use Rattle.bcj_parser_trees.specs.Trees as tree
use Rattle.bcj_parser_trees.specs.Trees.{PlainExpr}
use Rattle.bcj_parser_rules.specs.declared.kind.Mark.TheVariants as mark
use Rattle.bcj_parser_rules.specs.declared.kind.Beginning.{Beginning}
use Rattle.bcj_parser_rules.specs.declared.kind.Beginning.TheVariants as begin
use Rattle.bcj_parser_rules.specs.declared.kind.Joining.{Joining}
use Rattle.bcj_parser_rules.specs.declared.kind.Joining.TheVariants as join
use Rattle.bcj_parser_rules.specs.declared.terminal.Terminal.TheVariants as terminal
use Rattle.bcj_parser_rules.specs.declared.stop.Stop.{Stop}
use Rattle.bcj_parser_rules.specs.declared.stop.Site.TheVariants as site
use Rattle.bcj_parser_rules.specs.Lexemes.{Lexeme, Lexemes}
use Rattle.bcj_parser_rules.specs.Lexemes.{first_at}
use Rattle.bcj_parser_rules.specs.Levels.{operator_level}
use Rattle.bcj_parser_rules.specs.Lexemes.{terminal_at}
use Rattle.bcj_parser_rules.specs.function.Kinds.{beginning, joining}
use Rattle.bcj_parser_rules.specs.function.Steps.{Outcome, Parser, continued, then_read, pure, refuse, deep, rest, expect, named, sees, ◌>>=◌}
use Rattle.bcj_parser_rules.specs.function.Expressions.{arguments, type_name, fresh, behind_name, behind_bracket, behind_this, behind_super, Read, Inner, binds, allows, begins, element_operand, operand_by, operand, dotted, chosen, joined_by, joined, climb_by, climb, expression}
use Rattle.bcj_parser_completeness.proofs.Terminals.{unseen, mark_terminal}
use Rattle.bcj_parser_completeness.proofs.Steps.{bind}
use Rattle.bcj_parser_completeness.proofs.Climbing.{passing_at, operand_as, climb_stops, joined_reads}
use Rattle.bcj_parser_completeness.proofs.Operands.{name_reads}

-- ---- outcomes that are no trees

abbrev pub Fails : {A : Type 0} → Result A Stop → Type 0
Fails (Ok x) = ⊥
Fails (Err e) = Unit {0}

pub bind_fails : {A B : Type 0} (q : Outcome A) (f : A → Parser B) → Fails q.0 → Fails (then_read q f).0
bind_fails {A} {B} q f h = by q.0 h where
  by : (r : Result A Stop) → Fails r → Fails (continued r q.1 f).0
  by (Ok x) h = absurd h
  by (Err e) h = tt

pub no_tree : {A : Type 0} {q : Outcome A} {x : A} {a : Lexemes} → q ≡ (Ok x, a) → Fails q.0 → ⊥
no_tree e h = subst (λ o. Fails o.0) e h

-- ---- each turn of the loop makes a higher tree

abbrev Grows : ℕ → Result Read Stop → Type 0
Grows g (Ok x) = g ≤ x.1
Grows g (Err e) = Unit {0}

bind_grows : {A : Type 0} (g : ℕ) (q : Outcome A) (f : A → Parser Read) → ((x : A) (m : Lexemes) → Grows g (f x m).0) → Grows g (then_read q f).0
bind_grows {A} g q f h = by q.0 where
  by : (r : Result A Stop) → Grows g (continued r q.1 f).0
  by (Ok x) = h x q.1
  by (Err e) = tt

either_grows : (g : ℕ) (b : Bool) (p q : Outcome Read) → Grows g p.0 → Grows g q.0 → Grows g (if b then p else q).0
either_grows g true p q h k = h
either_grows g false p q h k = k

either_parser_grows : (g : ℕ) (b : Bool) (p q : Parser Read) (i : Lexemes) → Grows g (p i).0 → Grows g (q i).0 → Grows g ((if b then p else q) i).0
either_parser_grows g true p q i h k = h
either_parser_grows g false p q i h k = k

dotted_grows : (inner : Inner) (at : ℕ) (l : Read) (x : List ℕ) (i : Lexemes) → Grows (suc l.1) (dotted inner at l x i).0
unfolding dotted
dotted_grows inner at l x i = either_grows (suc l.1) (sees mark.LeftParen i) _ _ (bind_grows (suc l.1) (arguments inner i) _ (λ es m. omega arith)) (omega arith)

chosen_grows : (inner : Inner) (at : ℕ) (l : Read) (i : Lexemes) → Grows (suc l.1) (chosen inner at l i).0
unfolding chosen
chosen_grows inner at l i = bind_grows (suc l.1) (inner fresh 1 i) _ (λ x m. bind_grows (suc l.1) (expect mark.Colon site.Elsewhere m) _ (λ _ n. bind_grows (suc l.1) (inner fresh 2 n) _ (λ y k. omega arith)))

joined_by_grows : (n : ℕ) (inner : Inner) (at : ℕ) (l : Read) (j : Joining) (i : Lexemes) → Grows (suc l.1) (joined_by n inner at l j i).0
joined_by_grows n inner at l (join.Assign o) i = bind_grows (suc l.1) (inner fresh 1 (rest i)) _ (λ r m. omega arith)
joined_by_grows n inner at l join.Question i = chosen_grows inner at l (rest i)
joined_by_grows n inner at l (join.Binary o) i = bind_grows (suc l.1) (inner fresh (suc (operator_level o)) (rest i)) _ (λ r m. omega arith)
joined_by_grows n inner at l join.InstanceOf i = bind_grows (suc l.1) (type_name n site.Elsewhere (rest i)) _ (λ ty m. omega arith)
joined_by_grows n inner at l (join.Step plus) i = omega arith
joined_by_grows n inner at l join.Dot i = bind_grows (suc l.1) (named site.Elsewhere (rest i)) _ (λ x m. dotted_grows inner at l x m)
joined_by_grows n inner at l join.Bracket i = bind_grows (suc l.1) (inner fresh 1 (rest i)) _ (λ y m. bind_grows (suc l.1) (expect mark.RightBracket site.Elsewhere m) _ (λ _ k. omega arith))
joined_by_grows n inner at l join.Nothing i = tt

joined_grows : (n : ℕ) (inner : Inner) (at : ℕ) (l : Read) (j : Joining) (i : Lexemes) → Grows (suc l.1) (joined n inner at l j i).0
unfolding joined
joined_grows n inner at l j i = either_parser_grows (suc l.1) (allows j l.0) _ _ i (either_parser_grows (suc l.1) (nat_le l.1 n) _ _ i (joined_by_grows n inner at l j i) tt) tt

-- ---- more turns than a room needs change nothing

passes : (q : Outcome Read) (f g : Read → Parser Read) (o : Outcome Read) (least : ℕ) → Grows least q.0 → ((l : Read) (m : Lexemes) → least ≤ l.1 → f l m ≡ o → g l m ≡ o) → then_read q f ≡ o → then_read q g ≡ o
passes q f g o least h k e = by q.0 h e where
  by : (r : Result Read Stop) → Grows least r → continued r q.1 f ≡ o → continued r q.1 g ≡ o
  by (Ok l) h e = k l q.1 h e
  by (Err w) h e = e

either_passes : (b : Bool) (p q r : Parser Read) (i : Lexemes) (o : Outcome Read) → (q i ≡ o → r i ≡ o) → (if b then p else q) i ≡ o → (if b then p else r) i ≡ o
either_passes true p q r i o f e = e
either_passes false p q r i o f e = f e

abbrev tall : Result Read Stop → ℕ
tall (Ok x) = x.1
tall (Err e) = 0

enough : (n : ℕ) (inner : Inner) (least at turns : ℕ) (l : Read) (i a : Lexemes) (x : Read) → climb n inner turns least at l i ≡ (Ok x, a) → x.1 ≤ suc n → suc (suc n) ≤ turns + l.1 → climb n inner (suc turns) least at l i ≡ (Ok x, a)
unfolding climb
enough n inner least at zero l i a x e low room = absurd (let p : l.1 ≡ x.1 = ap (λ (o : Outcome Read). tall o.0) e in omega arith)
enough n inner least at (suc turns) l i a x e low room =
    either_passes (nat_lt (binds (joining (terminal_at i))) least) (pure l) (joined n inner at l (joining (terminal_at i)) >>= climb n inner turns least at) (joined n inner at l (joining (terminal_at i)) >>= climb n inner (suc turns) least at) i (Ok x, a)
    (λ e. passes (joined n inner at l (joining (terminal_at i)) i) (climb n inner turns least at) (climb n inner (suc turns) least at) (Ok x, a) (suc l.1) (joined_grows n inner at l (joining (terminal_at i)) i)
    (λ k m g e. enough n inner least at turns k m a x e low (omega arith)) e) e

-- ---- behind a name, `this` and `super`

pub name_first : (n least : ℕ) (t : Lexeme) (j : Lexemes) → t.terminal ≡ terminal.Identifier → expression (suc n) fresh least (t ∷ j) ≡ expression (suc n) (behind_name t.at t.word) least j
unfolding expression operand
name_first n least t j h = ap (λ k. then_read (operand_by n (expression n) least t.at (beginning k) (t ∷ j)) (climb n (expression n) (suc n) least t.at)) h

pub this_first : (n least : ℕ) (t : Lexeme) (j : Lexemes) → t.terminal ≡ terminal.This → expression (suc n) fresh least (t ∷ j) ≡ expression (suc n) (behind_this t.at) least j
unfolding expression operand
this_first n least t j h = ap (λ k. then_read (operand_by n (expression n) least t.at (beginning k) (t ∷ j)) (climb n (expression n) (suc n) least t.at)) h

pub super_first : (n least : ℕ) (t : Lexeme) (j : Lexemes) → t.terminal ≡ terminal.Super → expression (suc n) fresh least (t ∷ j) ≡ expression (suc n) (behind_super t.at) least j
unfolding expression operand
super_first n least t j h = ap (λ k. then_read (operand_by n (expression n) least t.at (beginning k) (t ∷ j)) (climb n (expression n) (suc n) least t.at)) h

-- ---- behind a name and `[`

name_loop : (n least : ℕ) (t : Lexeme) (j : Lexemes) → t.terminal ≡ terminal.Identifier → sees mark.LeftParen j ≡ false
    → expression (suc n) fresh least (t ∷ j) ≡ climb n (expression n) (suc n) least t.at (tree.simple_name t.at t.word, 1) j
unfolding expression
name_loop n least t j h e = bind (operand_as n (expression n) least t.at t j begin.Name (ap beginning h) (name_reads (expression n) t.at t.word j e)) _ refl

-- a name that nothing goes on
pub name_alone : (n least : ℕ) (t : Lexeme) (j : Lexemes) → 1 ≤ least → t.terminal ≡ terminal.Identifier → sees mark.LeftParen j ≡ false → joining (terminal_at j) ≡ join.Nothing
    → expression (suc n) fresh least (t ∷ j) ≡ (Ok (tree.simple_name t.at t.word, 1), j)
name_alone n least t j l h e b = name_loop n least t j h e
    ∙ climb_stops n (expression n) (suc n) least t.at (tree.simple_name t.at t.word, 1) j (subst (λ (k : Joining). binds k < least) (sym b) (omega arith))

bracket_turn : (n least turns at : ℕ) (l : Read) (u : Lexeme) (j : Lexemes) → least ≤ 14 → u.terminal ≡ terminal.LeftBracket
    → climb n (expression n) (suc turns) least at l (u ∷ j) ≡ then_read (joined n (expression n) at l join.Bracket (u ∷ j)) (climb n (expression n) turns least at)
unfolding climb
bracket_turn n least turns at l u j b h = ap (λ k. climb_by (climb n (expression n) turns least at) n (expression n) least at l (joining k) (u ∷ j)) h ∙ passing_at (le-ltb 14 least b) _ _ refl

bracket_loop : (n least : ℕ) (t u : Lexeme) (j : Lexemes) → least ≤ 14 → t.terminal ≡ terminal.Identifier → u.terminal ≡ terminal.LeftBracket
    → expression (suc n) fresh least (t ∷ u ∷ j) ≡ then_read (joined n (expression n) t.at (tree.simple_name t.at t.word, 1) join.Bracket (u ∷ j)) (climb n (expression n) n least t.at)
bracket_loop n least t u j l h k = name_loop n least t (u ∷ j) h (unseen mark.LeftParen (u ∷ j) k refl) ∙ bracket_turn n least n t.at (tree.simple_name t.at t.word, 1) u j l k

element_joined : (n at : ℕ) (x : List ℕ) (u : Lexeme) (j : Lexemes) → 1 ≤ n → joined n (expression n) at (tree.simple_name at x, 1) join.Bracket (u ∷ j) ≡ element_operand (expression n) at x j
unfolding joined element_operand
element_joined n at x u j l = joined_reads n (expression n) at (tree.simple_name at x, 1) join.Bracket (u ∷ j) refl l refl

element_grows : (inner : Inner) (at : ℕ) (x : List ℕ) (j : Lexemes) → Grows 2 (element_operand inner at x j).0
unfolding element_operand
element_grows inner at x j = bind_grows 2 (inner fresh 1 j) _ (λ y m. bind_grows 2 (expect mark.RightBracket site.Elsewhere m) _ (λ _ k. omega arith))

roomless_bracket : (at : ℕ) (x : List ℕ) (u : Lexeme) (j : Lexemes) → Fails (joined zero (expression zero) at (tree.simple_name at x, 1) join.Bracket (u ∷ j)).0
unfolding joined
roomless_bracket at x u j = tt

bracket_expression : (n least at : ℕ) (x : List ℕ) (j a : Lexemes) (y : Read) → then_read (element_operand (expression n) at x j) (climb n (expression n) n least at) ≡ (Ok y, a) → y.1 ≤ suc n
    → expression (suc n) (behind_bracket at x) least j ≡ (Ok y, a)
unfolding expression
bracket_expression n least at x j a y e low = passes (element_operand (expression n) at x j) (climb n (expression n) n least at) (climb n (expression n) (suc n) least at) (Ok y, a) 2 (element_grows (expression n) at x j)
    (λ l m g e. enough n (expression n) least at n l m a y e low (omega arith)) e

pub bracket_first : (n least : ℕ) (t u : Lexeme) (j a : Lexemes) (y : Read) → least ≤ 14 → t.terminal ≡ terminal.Identifier → u.terminal ≡ terminal.LeftBracket → expression (suc n) fresh least (t ∷ u ∷ j) ≡ (Ok y, a) → y.1 ≤ suc n
    → expression (suc n) (behind_bracket t.at t.word) least j ≡ (Ok y, a)
bracket_first zero least t u j a y l h k e low = absurd (no_tree (sym (bracket_loop zero least t u j l h k) ∙ e) (bind_fails _ (climb zero (expression zero) zero least t.at) (roomless_bracket t.at t.word u j)))
bracket_first (suc n) least t u j a y l h k e low =
    bracket_expression (suc n) least t.at t.word j a y
    (ap (λ q. then_read q (climb (suc n) (expression (suc n)) (suc n) least t.at)) (sym (element_joined (suc n) t.at t.word u j (omega arith))) ∙ sym (bracket_loop (suc n) least t u j l h k) ∙ e) low

-- ---- what begins no expression

refused : (n least : ℕ) (i : Lexemes) → beginning (terminal_at i) ≡ begin.Nothing → Fails (expression n fresh least i).0
unfolding expression operand
refused zero least i h = subst (λ (k : Beginning). Fails {A = Read} ((if begins least k then deep else refuse site.Elsewhere) i).0) (sym h) tt
refused (suc n) least i h = bind_fails _ (climb n (expression n) (suc n) least (first_at i)) (subst (λ (k : Beginning). Fails {A = Read} (operand_by n (expression n) least (first_at i) k i).0) (sym h) tt)

element_refused : (n at : ℕ) (x : List ℕ) (j : Lexemes) → beginning (terminal_at j) ≡ begin.Nothing → Fails (element_operand (expression n) at x j).0
unfolding element_operand
element_refused n at x j h = bind_fails (expression n fresh 1 j) _ (refused n 1 j h)

-- empty brackets are no element
pub empty_brackets : (n least : ℕ) (t u : Lexeme) (j : Lexemes) → least ≤ 14 → t.terminal ≡ terminal.Identifier → u.terminal ≡ terminal.LeftBracket → sees mark.RightBracket j ≡ true → Fails (expression (suc n) fresh least (t ∷ u ∷ j)).0
empty_brackets zero least t u j l h k e = subst (λ o. Fails o.0) (sym (bracket_loop zero least t u j l h k)) (bind_fails _ (climb zero (expression zero) zero least t.at) (roomless_bracket t.at t.word u j))
empty_brackets (suc n) least t u j l h k e = subst (λ o. Fails o.0) (sym (bracket_loop (suc n) least t u j l h k)) (bind_fails _ (climb (suc n) (expression (suc n)) (suc n) least t.at)
    (subst (λ o. Fails o.0) (sym (element_joined (suc n) t.at t.word u j (omega arith))) (element_refused (suc n) t.at t.word j (ap beginning (mark_terminal mark.RightBracket (terminal_at j) e)))))
