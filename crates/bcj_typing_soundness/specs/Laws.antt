-- What elaboration makes of the parts of a body is well typed, in each frame that agrees with the body's context.
use Rattle.std.specs.Prelude.{ℕ, List}
use Rattle.bcj_lexer.specs.declared.Token.{Token}
use Rattle.bcj_lexer.specs.Pieces.{TokensOf}
use Rattle.bcj_parser_trees.specs.Trees.{PlainExpr, PlainExprs, PlainStmt, PlainStmts, PlainUnit}
use Rattle.bcj_parser_rules.specs.Texts.{IsUnit}
use Rattle.bcj_parser_wellformed.specs.WellFormed.{IsFormedExpr, AreFormedExprs, IsFormedStmt, AreFormedStmts, IsWellFormed}
use Rattle.bcj_symbolic_trees.specs.Types.{PlainTy}
use Rattle.bcj_symbolic_trees.specs.Units as symbolic
use Rattle.bcj_symbolic_check.specs.Typing.{Each, WellTyped}
use Rattle.bcj_decl_rules.specs.declared.value.Value.{Value}
use Rattle.bcj_decl_rules.specs.World.{Field}
use Rattle.bcj_decl_rules.specs.Constants.{IsConstantField}
use Rattle.bcj_decl_rules.specs.Faults.{IsDeclared}
use Rattle.bcj_typing_rules.specs.Context.{Context}
use Rattle.bcj_typing_rules.specs.Expressions.{Typing, Placing, Types, TypesAll, TypesPlace}
use Rattle.bcj_typing_rules.specs.Statements.{Effect, Effects, HasEffect, RunAll}
use Rattle.bcj_typing_rules.specs.Units.{Elaborates}
use Rattle.bcj_typing_soundness.specs.Values.{IsValueOf}
use Rattle.bcj_typing_soundness.specs.World.{WorldIsSound}
use Rattle.bcj_typing_soundness.specs.Frames.{IsSoundContext, IsTyped, IsPlaced, IsRun, AreRun}

-- what an expression becomes has its type
abbrev pub ExpressionsTyped : Type 0
ExpressionsTyped = (c : Context) (e : PlainExpr) (t : Typing) → IsSoundContext c → IsFormedExpr e → Types c e t → IsTyped c t

-- each argument
abbrev pub ArgumentsTyped : Type 0
ArgumentsTyped = (c : Context) (es : PlainExprs) (ts : List Typing) → IsSoundContext c → AreFormedExprs es → TypesAll c es ts → Each (IsTyped c) ts

-- a variable that is assigned can be set and updated
abbrev pub PlacesTyped : Type 0
PlacesTyped = (c : Context) (e : PlainExpr) (p : Placing) → IsSoundContext c → IsFormedExpr e → TypesPlace c e p → IsPlaced c p

-- what a statement becomes has a rule
abbrev pub StatementsTyped : Type 0
StatementsTyped = (c : Context) (types : List PlainTy) (s : PlainStmt) (e : Effect) → IsSoundContext c → IsFormedStmt s → HasEffect c types s e → IsRun c types e

-- the statements of a body
abbrev pub BodiesTyped : Type 0
BodiesTyped = (c : Context) (types : List PlainTy) (body : PlainStmts) (b : Effects) → IsSoundContext c → AreFormedStmts body → RunAll c types body b → AreRun c types b

-- the value of a field as a constant is one of its type
abbrev pub ConstantsTyped : Type 0
ConstantsTyped = (units : List PlainUnit) (f : Field) (v : Value) → IsConstantField units f v → IsValueOf v f.ty

-- ---- units

-- where nothing is refused of well-formed units, their world is sound
abbrev pub WorldsSound : Type 0
WorldsSound = (units : List PlainUnit) → IsDeclared units → Each IsWellFormed units → WorldIsSound units

-- where nothing is refused of well-formed units, what elaboration makes of one is well typed
abbrev pub FormedElaborationsWellTyped : Type 0
FormedElaborationsWellTyped =
    (units : List PlainUnit) → IsDeclared units → Each IsWellFormed units → (own : ℕ) (u : symbolic.PlainUnit) → Elaborates units own u → WellTyped u

-- the grammar derives the unit from some text, with at most 64 types and at most 256 high
pub record IsDerived (u : PlainUnit) : Type 0 where
  pub text : List ℕ
  pub tokens : List Token
  pub are_tokens : TokensOf text tokens
  pub is_unit : IsUnit text tokens u

-- the same of units that the grammar derives, which are well formed
abbrev pub ElaborationsWellTyped : Type 0
ElaborationsWellTyped =
    (units : List PlainUnit) → IsDeclared units → Each IsDerived units → (own : ℕ) (u : symbolic.PlainUnit) → Elaborates units own u → WellTyped u
