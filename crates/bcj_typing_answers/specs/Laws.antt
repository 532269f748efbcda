-- What the answers promise.
use Rattle.std.specs.Prelude.{List}
use Rattle.bcj_parser_trees.specs.Trees.{PlainUnit}
use Rattle.bcj_decl_rules.specs.Faults.{IsDeclared}
use Rattle.bcj_typing_rules.specs.function.Expressions.{AreRight, AreOnly}
use Rattle.bcj_typing_answers.specs.Answers.{answers_of}

-- in a declared world each answer is right
abbrev pub DeclaredWorldsAreAnswered : Type 0
DeclaredWorldsAreAnswered = (units : List PlainUnit) → IsDeclared units → AreRight units (answers_of units)

-- and no other choice of a method is
abbrev pub DeclaredWorldsHaveOneAnswer : Type 0
DeclaredWorldsHaveOneAnswer = (units : List PlainUnit) → IsDeclared units → AreOnly units (answers_of units)
