-- The function of the typing decides its relation.
use Rattle.std.specs.Prelude.{◌≡◌, ◌↔◌, Bool, true, List, Some}
use Rattle.std.specs.List.{list_all}
use Rattle.bcj_symbolic_trees.specs.Types.{PlainArg}
use Rattle.bcj_symbolic_trees.specs.Trees.{PlainExpr, PlainStmt, PlainStmts}
use Rattle.bcj_symbolic_trees.specs.Units.{PlainUnit}
use Rattle.bcj_symbolic_check.specs.Judgements.{Frame, sort}
use Rattle.bcj_symbolic_check.specs.Statements.{expr_marks, stmt_marks, stmts_marks}
use Rattle.bcj_symbolic_check.specs.Classes.{IsWellTyped}
use Rattle.bcj_symbolic_check.specs.Typing.{HasType, HasRule, HaveRules, WellTyped}

-- each node has a rule
abbrev pub EachHolds : List Bool → Type 0
EachHolds marks = list_all (λ holds. holds) marks ≡ true

abbrev pub TypesDecided : Type 0
TypesDecided = (frame : Frame) (e : PlainExpr) (t : PlainArg) → HasType frame e t ↔ (EachHolds (expr_marks frame e) × (sort frame e ≡ Some t))

abbrev pub TypesUnique : Type 0
TypesUnique = (frame : Frame) (e : PlainExpr) (s t : PlainArg) → HasType frame e s → HasType frame e t → s ≡ t

abbrev pub StatementsDecided : Type 0
StatementsDecided = (frame : Frame) (looped : Bool) (s : PlainStmt) → HasRule frame looped s ↔ EachHolds (stmt_marks frame looped s)

abbrev pub BodiesDecided : Type 0
BodiesDecided = (frame : Frame) (looped : Bool) (body : PlainStmts) → HaveRules frame looped body ↔ EachHolds (stmts_marks frame looped body)

abbrev pub UnitsDecided : Type 0
UnitsDecided = (u : PlainUnit) → WellTyped u ↔ IsWellTyped u
