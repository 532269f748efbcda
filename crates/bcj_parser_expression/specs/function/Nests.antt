-- A function value that reads expressions at most so high.
use Rattle.std.specs.Prelude.{◌≤◌, ℕ, List, map, Result, IfOk}
use Rattle.std.specs.declared.alloc.Global.{Global}
use denote.Ref.{MutBor}
use Rattle.bcj_parser_trees.specs.declared.expression.Expr.{Expr}
use Rattle.bcj_parser_trees.specs.Trees.{PlainExpr, PlainExprs}
use Rattle.bcj_parser_trees.specs.Plain.{expr_of, exprs_of}
use Rattle.bcj_parser_rules.specs.declared.stop.Stop.{Stop}
use Rattle.bcj_parser_rules.specs.Lexemes.{Lexemes}
use Rattle.bcj_parser_rules.specs.function.Steps.{Reads}
use Rattle.bcj_parser_rules.specs.function.Expressions as rule
use Rattle.bcj_parser_expression.specs.declared.begin.Begin.{Begin}
use Rattle.bcj_parser_expression.specs.function.Begin.{begin_of}

-- an expression, and expressions, with the height beside them
abbrev pub one_of : Expr × ℕ → PlainExpr × ℕ
one_of p = (expr_of p.0, p.1)

abbrev pub list_of : List Expr × ℕ → List PlainExpr × ℕ
list_of p = (map expr_of p.0, p.1)

abbrev pub args_of : List Expr × ℕ → PlainExprs × ℕ
args_of p = (exprs_of p.0, p.1)

pub record Nests (room : ℕ) (pre : Global → MutBor Lexemes → ℕ → Begin → ℕ → Type 0)
    (post : Global → MutBor Lexemes → ℕ → Begin → ℕ → Result (Expr × ℕ) Stop → MutBor Lexemes → Type 0) : Type 0 where
  pub callable : (alloc : Global) (old : MutBor Lexemes) (begin : Begin) (least : ℕ) → pre alloc old room begin least
  pub reads : (alloc : Global) (old new : MutBor Lexemes) (begin : Begin) (least : ℕ) (r : Result (Expr × ℕ) Stop) → post alloc old room begin least r new
      → Reads one_of (rule.expression room (begin_of begin) least old.now) r new.now
  pub low : (alloc : Global) (old new : MutBor Lexemes) (begin : Begin) (least : ℕ) (r : Result (Expr × ℕ) Stop) → post alloc old room begin least r new
      → IfOk r (λ p. p.1 ≤ room)
