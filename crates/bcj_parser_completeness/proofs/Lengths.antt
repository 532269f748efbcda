-- What the grammar derives takes tokens
use Rattle.std.proofs.Common.{ℕ, ◌<◌, ◌≤◌, List, length, arith}
use Rattle.bcj_parser_trees.specs.declared.names.TypeName.{TypeName}
use Rattle.bcj_parser_trees.specs.declared.names.Mods.{Mods}
use Rattle.bcj_parser_trees.specs.declared.names.Param.{Param}
use Rattle.bcj_parser_trees.specs.Trees.{PlainExpr, PlainExprs, PlainOption, PlainStmt, PlainStmts, PlainCatches, PlainBody, PlainFirst}
use Rattle.bcj_parser_rules.specs.declared.terminal.Terminal.{Terminal}
use Rattle.bcj_parser_rules.specs.Lexemes.{Lexemes}
use Rattle.bcj_parser_rules.specs.Grammar as g
use Rattle.bcj_parser_rules.specs.Grammar.{Brackets, TypeRead, Derives, Arguments, MoreArguments, Variable, VariableRead, Variables, Evaluations, ForInit, MaybeExpr, ForUpdate, Statement, Block, Statements, Catches, Modifiers, Parameters, MoreParameters, Names, NamesBehind, ResultRead, BodyRead, FirstRead}

brackets_take : {i a : Lexemes} {n : ℕ} → Brackets i a n → length a ≤ length i
brackets_take g.no_pair = omega arith
brackets_take (g.pair {t = t} {u = u} {m = m} {a = a} h k b) = omega (arith, brackets_take b)

pub type_takes : {i a : Lexemes} {ty : TypeName} → TypeRead i a ty → length a < length i
type_takes (g.type_read {t = t} {m = m} {a = a} b p) = omega (arith, brackets_take p)

mutual
  pub expression_takes : {k h : ℕ} {i a : Lexemes} {x : PlainExpr} → Derives k i a x h → length a < length i
  expression_takes (g.looser d) = expression_takes d
  expression_takes (g.assign {t = t} {i = i} {m = m} {a = a} d p e f) = omega (arith, expression_takes d, expression_takes f)
  expression_takes (g.compound {t = t} {i = i} {m = m} {a = a} d p e f) = omega (arith, expression_takes d, expression_takes f)
  expression_takes (g.conditional {t = t} {u = u} {i = i} {m = m} {n = n} {a = a} d e f k q) = omega (arith, expression_takes d, expression_takes f, expression_takes q)
  expression_takes (g.binary {t = t} {i = i} {m = m} {a = a} d e f) = omega (arith, expression_takes d, expression_takes f)
  expression_takes (g.instance_of {t = t} {i = i} {m = m} {a = a} d e ty) = omega (arith, expression_takes d, type_takes ty)
  expression_takes (g.signed {t = t} {m = m} {a = a} e d) = omega (arith, expression_takes d)
  expression_takes (g.step_before {t = t} {m = m} {a = a} e d p) = omega (arith, expression_takes d)
  expression_takes (g.step_behind {t = t} {i = i} {a = a} d p e) = omega (arith, expression_takes d)
  expression_takes (g.cast_to_int {t = t} {u = u} {v = v} {m = m} {n = n} {a = a} e f b q d) = omega (arith, brackets_take b, expression_takes d)
  expression_takes (g.cast_to_boolean {t = t} {u = u} {v = v} {m = m} {n = n} {a = a} e f b q d) = omega (arith, brackets_take b, expression_takes d)
  expression_takes (g.cast_to_class {t = t} {u = u} {v = v} {m = m} {n = n} {a = a} e f b q o d) = omega (arith, brackets_take b, expression_takes d)
  expression_takes (g.paren {t = t} {u = u} {m = m} {a = a} e d k) = omega (arith, expression_takes d)
  expression_takes (g.new_object {t = t} {u = u} {m = m} {a = a} e f args) = omega (arith, arguments_take args)
  expression_takes (g.new_array {t = t} {u = u} {v = v} {w = w} {m = m} {n = n} {a = a} e b f d k p) = omega (arith, expression_takes d, brackets_take p)
  expression_takes (g.call {t = t} {m = m} {a = a} e args) = omega (arith, arguments_take args)
  expression_takes (g.super_call {t = t} {u = u} {v = v} {m = m} {a = a} e f k args) = omega (arith, arguments_take args)
  expression_takes (g.dot {t = t} {u = u} {i = i} {a = a} d e f) = omega (arith, expression_takes d)
  expression_takes (g.dot_call {t = t} {u = u} {i = i} {m = m} {a = a} d e f args) = omega (arith, expression_takes d, arguments_take args)
  expression_takes (g.element {t = t} {u = u} {i = i} {m = m} {a = a} d c e f k) = omega (arith, expression_takes d, expression_takes f)
  expression_takes _ = omega arith

  pub arguments_take : {i a : Lexemes} {es : PlainExprs} {h : ℕ} → Arguments i a es h → length a < length i
  arguments_take (g.no_arguments e k) = omega arith
  arguments_take (g.some_arguments {t = t} {m = m} {a = a} e args) = omega (arith, more_arguments_take args)

  pub more_arguments_take : {i a : Lexemes} {es : PlainExprs} {h : ℕ} → MoreArguments i a es h → length a < length i
  more_arguments_take (g.last_argument {t = t} {i = i} {a = a} d e) = omega (arith, expression_takes d)
  more_arguments_take (g.more_arguments {t = t} {i = i} {m = m} {a = a} d e args) = omega (arith, expression_takes d, more_arguments_take args)

pub variable_takes : {i a : Lexemes} {v : Variable} {h : ℕ} → VariableRead i a v h → length a < length i
variable_takes (g.no_initialiser e) = omega arith
variable_takes (g.initialiser {t = t} {u = u} {m = m} {a = a} e f d) = omega (arith, expression_takes d)

pub variables_take : {i a : Lexemes} {vs : List Variable} {h : ℕ} → Variables i a vs h → length a < length i
variables_take (g.last_variable {t = t} {i = i} {a = a} d e) = omega (arith, variable_takes d)
variables_take (g.more_variables {t = t} {i = i} {m = m} {a = a} d e ds) = omega (arith, variable_takes d, variables_take ds)

evaluations_take : {closing : Terminal} {i a : Lexemes} {es : PlainExprs} {h : ℕ} → Evaluations closing i a es h → length a < length i
evaluations_take (g.last_evaluation {t = t} {i = i} {a = a} d c e) = omega (arith, expression_takes d)
evaluations_take (g.more_evaluations {t = t} {i = i} {m = m} {a = a} d c e ds) = omega (arith, expression_takes d, evaluations_take ds)

init_takes : {i a : Lexemes} {is : PlainStmts} {h : ℕ} → ForInit i a is h → length a < length i
init_takes (g.init_none e) = omega arith
init_takes (g.init_locals {i = i} {m = m} {a = a} ty vs) = omega (arith, type_takes ty, variables_take vs)
init_takes (g.init_evaluations {i = i} {a = a} es) = omega (arith, evaluations_take es)

maybe_takes : {i a : Lexemes} {o : PlainOption} {h : ℕ} → MaybeExpr i a o h → length a < length i
maybe_takes (g.no_expr e) = omega arith
maybe_takes (g.an_expr {t = t} {i = i} {a = a} d e) = omega (arith, expression_takes d)

update_takes : {i a : Lexemes} {es : PlainExprs} {h : ℕ} → ForUpdate i a es h → length a < length i
update_takes (g.update_none e) = omega arith
update_takes (g.update_some {i = i} {a = a} es) = omega (arith, evaluations_take es)

mutual
  pub statement_takes : {i a : Lexemes} {x : PlainStmt} {h : ℕ} → Statement i a x h → length a < length i
  statement_takes (g.block b) = block_takes b
  statement_takes (g.empty e) = omega arith
  statement_takes (g.evaluate {t = t} {i = i} {a = a} d c e) = omega (arith, expression_takes d)
  statement_takes (g.if_only {t = t} {u = u} {v = v} {m = m} {n = n} {a = a} e f d k x o) = omega (arith, expression_takes d, statement_takes x)
  statement_takes (g.if_else {t = t} {u = u} {v = v} {w = w} {m = m} {n = n} {k = k} {a = a} e f d q x o y) = omega (arith, expression_takes d, statement_takes x, statement_takes y)
  statement_takes (g.while_loop {t = t} {u = u} {v = v} {m = m} {n = n} {a = a} e f d q x) = omega (arith, expression_takes d, statement_takes x)
  statement_takes (g.do_loop {t = t} {u = u} {v = v} {w = w} {z = z} {m = m} {n = n} {a = a} e x f q d o p) = omega (arith, expression_takes d, statement_takes x)
  statement_takes (g.for_loop {t = t} {u = u} {m = m} {n = n} {k = k} {l = l} {a = a} e f is c es x) = omega (arith, init_takes is, maybe_takes c, update_takes es, statement_takes x)
  statement_takes (g.return_with {t = t} {m = m} {a = a} e v) = omega (arith, maybe_takes v)
  statement_takes (g.throw {t = t} {u = u} {m = m} {a = a} e d f) = omega (arith, expression_takes d)
  statement_takes (g.break_loop e f) = omega arith
  statement_takes (g.continue_loop e f) = omega arith
  statement_takes (g.try_catch {t = t} {m = m} {n = n} {a = a} e b cs) = omega (arith, block_takes b, catches_take cs)

  pub block_takes : {i a : Lexemes} {ss : PlainStmts} {h : ℕ} → Block i a ss h → length a < length i
  block_takes (g.braces {t = t} {u = u} {m = m} {a = a} e ss f) = omega (arith, statements_take ss)

  pub statements_take : {i a : Lexemes} {ss : PlainStmts} {h : ℕ} → Statements i a ss h → length a ≤ length i
  statements_take g.no_statement = omega arith
  statements_take (g.a_statement {i = i} {m = m} {a = a} x ss) = omega (arith, statement_takes x, statements_take ss)
  statements_take (g.locals {i = i} {m = m} {n = n} {a = a} ty vs ss) = omega (arith, type_takes ty, variables_take vs, statements_take ss)

  pub catches_take : {i a : Lexemes} {cs : PlainCatches} {h : ℕ} → Catches i a cs h → length a < length i
  catches_take (g.last_catch {t = t} {u = u} {v = v} {w = w} {z = z} {m = m} {a = a} e f k o p b) = omega (arith, block_takes b)
  catches_take (g.more_catches {t = t} {u = u} {v = v} {w = w} {z = z} {m = m} {n = n} {a = a} e f k o p b cs) = omega (arith, block_takes b, catches_take cs)

pub modifiers_take : {before mods : Mods} {i a : Lexemes} → Modifiers before i a mods → length a ≤ length i
modifiers_take g.no_modifier = omega arith
modifiers_take (g.modifier {t = t} {m = m} {a = a} e d) = omega (arith, modifiers_take d)

more_parameters_take : {i a : Lexemes} {ps : List Param} {d : ℕ} → MoreParameters i a ps d → length a < length i
more_parameters_take (g.last_parameter {t = t} {u = u} {i = i} {a = a} r e f) = omega (arith, type_takes r)
more_parameters_take (g.more_parameters {t = t} {u = u} {i = i} {m = m} {a = a} r e f ps) = omega (arith, type_takes r, more_parameters_take ps)

pub parameters_take : {i a : Lexemes} {ps : List Param} {d : ℕ} → Parameters i a ps d → length a < length i
parameters_take (g.no_parameters e f) = omega arith
parameters_take (g.some_parameters {t = t} {m = m} {a = a} e ps) = omega (arith, more_parameters_take ps)

names_take : {i a : Lexemes} {ns : List (List ℕ)} → Names i a ns → length a < length i
names_take (g.last_name e) = omega arith
names_take (g.more_names {t = t} {u = u} {m = m} {a = a} e f ns) = omega (arith, names_take ns)

pub names_behind_take : {word : Terminal} {i a : Lexemes} {ns : List (List ℕ)} → NamesBehind word i a ns → length a ≤ length i
names_behind_take g.no_names = omega arith
names_behind_take (g.names {t = t} {m = m} {a = a} e ns) = omega (arith, names_take ns)

pub result_takes : {i a : Lexemes} {ty : TypeName} → ResultRead i a ty → length a < length i
result_takes (g.void_result e) = omega arith
result_takes (g.typed_result r) = type_takes r

pub body_takes : {i a : Lexemes} {b : PlainBody} {h : ℕ} → BodyRead i a b h → length a < length i
body_takes (g.no_block e) = omega arith
body_takes (g.a_block b) = block_takes b

pub first_takes : {i a : Lexemes} {f : PlainFirst} {h : ℕ} → FirstRead i a f h → length a ≤ length i
first_takes g.no_call = omega arith
first_takes (g.to_this {t = t} {u = u} {m = m} {a = a} e args f) = omega (arith, arguments_take args)
first_takes (g.to_super {t = t} {u = u} {m = m} {a = a} e args f) = omega (arith, arguments_take args)
