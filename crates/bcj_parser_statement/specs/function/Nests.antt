-- A function value that reads statements of a room.
use Rattle.std.specs.Prelude.{ℕ, Result, ◌≤◌, IfOk}
use Rattle.std.specs.declared.alloc.Global.{Global}
use denote.Ref.{MutBor}
use Rattle.bcj_parser_trees.specs.declared.statement.Stmt.{Stmt}
use Rattle.bcj_parser_trees.specs.Plain.{stmt_of}
use Rattle.bcj_parser_rules.specs.declared.stop.Stop.{Stop}
use Rattle.bcj_parser_rules.specs.Lexemes.{Lexemes}
use Rattle.bcj_parser_rules.specs.function.Steps.{Reads}
use Rattle.bcj_parser_rules.specs.function.Statements.{statement}

pub record Nests (room : ℕ) (pre : Global → MutBor Lexemes → ℕ → Type 0) (post : Global → MutBor Lexemes → ℕ → Result (Stmt × ℕ) Stop → MutBor Lexemes → Type 0) : Type 0 where
  pub callable : (alloc : Global) (old : MutBor Lexemes) → pre alloc old room
  pub reads : (alloc : Global) (old new : MutBor Lexemes) (r : Result (Stmt × ℕ) Stop) → post alloc old room r new → Reads (λ p. (stmt_of p.0, p.1)) (statement room old.now) r new.now
  pub low : (alloc : Global) (old new : MutBor Lexemes) (r : Result (Stmt × ℕ) Stop) → post alloc old room r new → IfOk r (λ p. p.1 ≤ room)
