-- What may stand behind an expression
use Rattle.std.proofs.Common.{◌≡◌, refl, ap, sym, ◌∙◌, subst, ℕ, suc, ◌<◌, ◌≤◌, Bool, true, false, not, ◌==◌, nat_le, if◌then◌else◌, ◌∷◌, Some, arith, ◌⊎◌, inl, inr}
use Rattle.bcj_parser_trees.specs.declared.expression.BinOp.{BinOp}
use Rattle.bcj_parser_trees.specs.declared.expression.BinOp.TheVariants as op
use Rattle.bcj_parser_trees.specs.declared.expression.UnaryOp.{UnaryOp}
use Rattle.bcj_parser_trees.specs.Trees.{PlainExpr}
use Rattle.bcj_parser_rules.specs.declared.kind.Mark.{Mark}
use Rattle.bcj_parser_rules.specs.declared.kind.Mark.TheVariants as mark
use Rattle.bcj_parser_rules.specs.declared.kind.Beginning.TheVariants as begin
use Rattle.bcj_parser_rules.specs.declared.kind.Joining.TheVariants as join
use Rattle.bcj_parser_rules.specs.declared.kind.TypeBeginning.TheVariants as typed
use Rattle.bcj_parser_rules.specs.declared.terminal.Terminal.{Terminal}
use Rattle.bcj_parser_rules.specs.declared.terminal.Terminal.TheVariants as terminal
use Rattle.bcj_parser_rules.specs.Lexemes.{Lexeme, Lexemes}
use Rattle.bcj_parser_rules.specs.Levels.{operator_level}
use Rattle.bcj_parser_rules.specs.Grammar.{unary_operator, step_terminal, begins_unsigned, is_array_creation}
use Rattle.bcj_parser_rules.specs.Lexemes.{terminal_at}
use Rattle.bcj_parser_rules.specs.Marks.{is_mark}
use Rattle.bcj_parser_rules.specs.function.Kinds.{terminal_of_mark, beginning, joining, type_beginning}
use Rattle.bcj_parser_rules.specs.function.Steps.{sees}
use Rattle.bcj_parser_rules.specs.function.Expressions.{binds, begins}
use Rattle.bcj_parser_completeness.proofs.Terminals.{apart}

-- what binds less tight than this may follow an expression of such a level
abbrev pub tight : ℕ → ℕ
tight k = if nat_le k 2 then k else (if k == 13 then k else suc k)

pub tight_up : (k : ℕ) → tight k ≤ tight (suc k)
tight_up k = grind arith

tight_least : (k : ℕ) → k ≤ tight k
tight_least k = grind arith

pub tight_level : (o : BinOp) → tight (operator_level o) ≡ suc (operator_level o)
tight_level op.OrElse = refl
tight_level op.AndAlso = refl
tight_level op.Or = refl
tight_level op.Xor = refl
tight_level op.And = refl
tight_level op.Eq = refl
tight_level op.Ne = refl
tight_level op.Lt = refl
tight_level op.Gt = refl
tight_level op.Le = refl
tight_level op.Ge = refl
tight_level op.Shl = refl
tight_level op.Shr = refl
tight_level op.Ushr = refl
tight_level op.Add = refl
tight_level op.Sub = refl
tight_level op.Mul = refl
tight_level op.Div = refl
tight_level op.Rem = refl

pub level_tight : (o : BinOp) → operator_level o < tight (operator_level o)
level_tight o = subst (λ n. operator_level o < n) (sym (tight_level o)) (omega arith)

pub level_high : (o : BinOp) → operator_level o ≤ 12
level_high op.OrElse = omega arith
level_high op.AndAlso = omega arith
level_high op.Or = omega arith
level_high op.Xor = omega arith
level_high op.And = omega arith
level_high op.Eq = omega arith
level_high op.Ne = omega arith
level_high op.Lt = omega arith
level_high op.Gt = omega arith
level_high op.Le = omega arith
level_high op.Ge = omega arith
level_high op.Shl = omega arith
level_high op.Shr = omega arith
level_high op.Ushr = omega arith
level_high op.Add = omega arith
level_high op.Sub = omega arith
level_high op.Mul = omega arith
level_high op.Div = omega arith
level_high op.Rem = omega arith

pub level_passes : (o : BinOp) → tight (operator_level o) ≤ 14
level_passes o = subst (λ n. n ≤ 14) (sym (tight_level o)) (let l : operator_level o ≤ 12 = level_high o in omega arith)

pub record Stops (k : ℕ) (x : PlainExpr) (a : Lexemes) : Type 0 where
  pub low : binds (joining (terminal_at a)) < tight k
  pub unsigned : begins_unsigned (terminal_at a) ≡ false
  pub unbraced : is_mark mark.LeftBrace (terminal_at a) ≡ false
  pub unindexed : is_array_creation x ≡ true → is_mark mark.LeftBracket (terminal_at a) ≡ false

-- what closes or separates
abbrev pub closes : Terminal → Bool
closes terminal.RightParen = true
closes terminal.RightBracket = true
closes terminal.Semicolon = true
closes terminal.Comma = true
closes terminal.Colon = true
closes _ = false

pub closes_joining : (j : Terminal) → closes j ≡ true → joining j ≡ join.Nothing
closes_joining terminal.RightParen e = refl
closes_joining terminal.RightBracket e = refl
closes_joining terminal.Semicolon e = refl
closes_joining terminal.Comma e = refl
closes_joining terminal.Colon e = refl
closes_joining _ e = absurd (cc)

closes_unsigned : (j : Terminal) → closes j ≡ true → begins_unsigned j ≡ false
closes_unsigned terminal.RightParen e = refl
closes_unsigned terminal.RightBracket e = refl
closes_unsigned terminal.Semicolon e = refl
closes_unsigned terminal.Comma e = refl
closes_unsigned terminal.Colon e = refl
closes_unsigned _ e = absurd (cc)

-- an expression of level 1 goes up to what closes it
pub closed_off : (x : PlainExpr) (t : Lexeme) (a : Lexemes) {j : Terminal} → t.terminal ≡ j → closes j ≡ true → Stops 1 x (t ∷ a)
closed_off x t a h e =
    let c : closes t.terminal ≡ true = ap closes h ∙ e in
    record {
      low = subst (λ j. binds j < 1) (sym (closes_joining t.terminal c)) (omega arith);
      unsigned = closes_unsigned t.terminal c;
      unbraced = apart closes mark.LeftBrace t.terminal (sym (ap not c));
      unindexed = λ _. apart closes mark.LeftBracket t.terminal (sym (ap not c));
    }

pub closed_at : (k : ℕ) (x : PlainExpr) (a : Lexemes) → 1 ≤ k → closes (terminal_at a) ≡ true → Stops k x a
closed_at k x a l c = record {
  low = subst (λ j. binds j < tight k) (sym (closes_joining (terminal_at a) c)) (let t : k ≤ tight k = tight_least k in omega arith);
  unsigned = closes_unsigned (terminal_at a) c;
  unbraced = apart closes mark.LeftBrace (terminal_at a) (sym (ap not c));
  unindexed = λ _. apart closes mark.LeftBracket (terminal_at a) (sym (ap not c));
}

-- an operator behind an operand
pub joined_on : (k : ℕ) (x : PlainExpr) (t : Lexeme) (a : Lexemes) {j : Terminal} → t.terminal ≡ j → binds (joining j) < tight k → begins_unsigned j ≡ false → is_mark mark.LeftBrace j ≡ false
    → (is_array_creation x ≡ true → is_mark mark.LeftBracket j ≡ false) → Stops k x (t ∷ a)
joined_on k x t a h l u b n = record {
  low = subst (λ j. binds (joining j) < tight k) (sym h) l;
  unsigned = ap begins_unsigned h ∙ u;
  unbraced = ap (is_mark mark.LeftBrace) h ∙ b;
  unindexed = λ e. ap (is_mark mark.LeftBracket) h ∙ n e;
}

pub bracket_binds : (j : Terminal) → binds (joining j) < 14 → is_mark mark.LeftBracket j ≡ false
bracket_binds terminal.LeftBracket l = absurd (omega arith)
bracket_binds _ l = refl

-- what may follow an expression may follow its last operand
pub passed : (k n : ℕ) (x y : PlainExpr) (a : Lexemes) → Stops k x a → tight k ≤ 14 → tight k ≤ tight n → Stops n y a
passed k n x y a w l m = record {
  low = let b : binds (joining (terminal_at a)) < tight k = w.low in omega arith;
  unsigned = w.unsigned;
  unbraced = w.unbraced;
  unindexed = λ _. bracket_binds (terminal_at a) (let b : binds (joining (terminal_at a)) < tight k = w.low in omega arith);
}

pub tighter : (k : ℕ) (x : PlainExpr) (a : Lexemes) → Stops k x a → Stops (suc k) x a
tighter k x a w = record {
  low = let b : binds (joining (terminal_at a)) < tight k = w.low in let u : tight k ≤ tight (suc k) = tight_up k in omega arith;
  unsigned = w.unsigned;
  unbraced = w.unbraced;
  unindexed = w.unindexed;
}

-- ---- unary operators, and `++` and `--`

pub unary_begins : (j : Terminal) (o : UnaryOp) → unary_operator j ≡ Some o → beginning j ≡ begin.Signed o
unary_begins (terminal.Operator op.Add) o e = cc
unary_begins (terminal.Operator op.Sub) o e = cc
unary_begins terminal.Not o e = cc
unary_begins terminal.Flip o e = cc
unary_begins _ o e = absurd (cc)

pub step_begins : (j : Terminal) (plus : Bool) → step_terminal j ≡ Some plus → beginning j ≡ begin.Stepped plus
step_begins terminal.Increment plus e = cc
step_begins terminal.Decrement plus e = cc
step_begins _ plus e = absurd (cc)

pub step_joins : (j : Terminal) (plus : Bool) → step_terminal j ≡ Some plus → joining j ≡ join.Step plus
step_joins terminal.Increment plus e = cc
step_joins terminal.Decrement plus e = cc
step_joins _ plus e = absurd (cc)

pub step_on : (x : PlainExpr) (t : Lexeme) (a : Lexemes) (plus : Bool) → step_terminal t.terminal ≡ Some plus → Stops 14 x (t ∷ a)
step_on x t a plus e = record {
  low = subst (λ j. binds j < 15) (sym (step_joins t.terminal plus e)) (omega arith);
  unsigned = unsigned t.terminal e;
  unbraced = unbraced t.terminal e;
  unindexed = λ _. unindexed t.terminal e;
} where
  unsigned : (j : Terminal) → step_terminal j ≡ Some plus → begins_unsigned j ≡ false
  unsigned terminal.Increment e = refl
  unsigned terminal.Decrement e = refl
  unsigned _ e = absurd (cc)

  unbraced : (j : Terminal) → step_terminal j ≡ Some plus → is_mark mark.LeftBrace j ≡ false
  unbraced terminal.Increment e = refl
  unbraced terminal.Decrement e = refl
  unbraced _ e = absurd (cc)

  unindexed : (j : Terminal) → step_terminal j ≡ Some plus → is_mark mark.LeftBracket j ≡ false
  unindexed terminal.Increment e = refl
  unindexed terminal.Decrement e = refl
  unindexed _ e = absurd (cc)

-- an expression begins as no type, or with a name
pub untyped : (j : Terminal) → begins 1 (beginning j) ≡ true → (type_beginning j ≡ typed.Nothing) ⊎ (j ≡ terminal.Identifier)
untyped terminal.Identifier e = inr refl
untyped terminal.IntType e = absurd (cc)
untyped terminal.Boolean e = absurd (cc)
untyped _ e = inl refl

pub not_begun : (j : Terminal) → begins 1 (beginning j) ≡ true → (k : Mark) → begins 1 (beginning (terminal_of_mark k)) ≡ false → is_mark k j ≡ false
not_begun j e k f = apart (λ j. begins 1 (beginning j)) k j (f ∙ sym (ap not e))

-- what begins no operand is no parenthesis
pub unopened : (i : Lexemes) → begins_unsigned (terminal_at i) ≡ false → sees mark.LeftParen i ≡ false
unopened i e = apart begins_unsigned mark.LeftParen (terminal_at i) (sym (ap not e))
