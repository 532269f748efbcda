-- What is said of a typed part, and of the result of typing one.
use Rattle.std.specs.Prelude.{◌≡◌, List, Result, IfOk}
use Rattle.bcj_parser_trees.specs.Trees as source
use Rattle.bcj_typing_rules.specs.Context.{Context}
use Rattle.bcj_typing_rules.specs.function.Expressions.{result, Answers, value_here, type_expr, type_exprs, type_place}
use Rattle.bcj_typing_node.specs.declared.miss.Miss.{Miss}
use Rattle.bcj_typing_node.specs.declared.typing.Typing.{Typing}
use Rattle.bcj_typing_node.specs.declared.typing.Placing.{Placing}
use Rattle.bcj_typing_node.specs.Outcomes.{Tells}
use Rattle.bcj_typing_node.specs.Typings.{typing_of, typings_of, placing_of}

-- an expression has this typing, with its value as a constant
pub record IsTyped (a : Answers) (c : Context) (e : source.PlainExpr) (t : Typing) : Type 0 where
  pub typing : type_expr a c e ≡ result (typing_of t)
  pub worth : t.value ≡ value_here a c e

-- arguments have these
pub record AreTyped (a : Answers) (c : Context) (es : source.PlainExprs) (ts : List Typing) : Type 0 where
  pub typings : type_exprs a c es ≡ result (typings_of ts)

-- a variable that is assigned is this
pub record IsPlaced (a : Answers) (c : Context) (e : source.PlainExpr) (p : Placing) : Type 0 where
  pub placing : type_place a c e ≡ result (placing_of p)

-- the typing of an expression or its first fault, unless memory fails
pub record Types (a : Answers) (c : Context) (e : source.PlainExpr) (r : Result Typing Miss) : Type 0 where
  pub typing : Tells typing_of (type_expr a c e) r
  pub worth : IfOk r (λ t. t.value ≡ value_here a c e)

-- the same of a variable that is assigned
pub record TypesPlace (a : Answers) (c : Context) (e : source.PlainExpr) (r : Result Placing Miss) : Type 0 where
  pub placing : Tells placing_of (type_place a c e) r
