-- Types and expressions that the grammar derives within the limits are well formed, and the tokens behind them still name identifiers.
use Rattle.std.proofs.Common.{ℕ, ◌≤◌, ◌∷◌, arith}
use Rattle.bcj_symbolic_check.specs.Limits.{max_dimensions}
use Rattle.bcj_parser_trees.specs.declared.names.Base.{Base}
use Rattle.bcj_parser_trees.specs.declared.names.TypeName.{TypeName}
use Rattle.bcj_parser_trees.specs.Trees.{PlainExpr, PlainExprs}
use Rattle.bcj_parser_rules.specs.Lexemes.{Lexeme, Lexemes}
use Rattle.bcj_parser_rules.specs.Limits.{max_height}
use Rattle.bcj_parser_rules.specs.Grammar as g
use Rattle.bcj_parser_rules.specs.Grammar.{Brackets, IsBase, TypeRead, Derives, Arguments, MoreArguments}
use Rattle.bcj_parser_wellformed.specs.WellFormed.{IsValueBase, int_base, bool_base, named_base, IsTypeName, array_name, IsFormedExpr, AreFormedExprs}
use Rattle.bcj_parser_wellformed.proofs.Words.{IsNamed, AreNamed, more_named}

-- the first token, where it is an identifier, spells one
pub first_named : {t : Lexeme} {i : Lexemes} → AreNamed (t ∷ i) → IsNamed t
first_named (more_named n r) = n

-- the tokens behind the first
pub behind : {t : Lexeme} {i : Lexemes} → AreNamed (t ∷ i) → AreNamed i
behind (more_named n r) = r

-- ---- types

-- behind pairs of brackets
pub brackets_named : {i a : Lexemes} {n : ℕ} → Brackets i a n → AreNamed i → AreNamed a
brackets_named g.no_pair n = n
brackets_named (g.pair e f b) n = brackets_named b (behind (behind n))

-- what stands before the brackets is that of a type of values
pub base_formed : {t : Lexeme} {b : Base} → IsBase t b → IsNamed t → IsValueBase b
base_formed (g.int_base e) n = int_base
base_formed (g.boolean_base e) n = bool_base
base_formed (g.named_base e) n = named_base (n e)

-- behind a type
pub type_named : {i a : Lexemes} {ty : TypeName} → TypeRead i a ty → AreNamed i → AreNamed a
type_named (g.type_read b r) n = brackets_named r (behind n)

-- a type that is read with few pairs is one of values
pub type_formed : {i a : Lexemes} {ty : TypeName} → TypeRead i a ty → AreNamed i → ty.dims ≤ max_dimensions → IsTypeName ty
type_formed (g.type_read b r) n l = record { base = base_formed b (first_named n); flat = l }

-- ---- expressions

mutual
  -- an expression within the height is well formed
  pub expr_formed : {k h : ℕ} {i a : Lexemes} {x : PlainExpr} → Derives k i a x h → AreNamed i → h ≤ max_height → AreNamed a × IsFormedExpr x
  expr_formed (g.looser d) n l = expr_formed d n l
  expr_formed (g.assign d p e f) n l =
      let x = expr_formed d n (omega arith) in
      let y = expr_formed f (behind x.0) (omega arith) in
      (y.0, (x.1, y.1))
  expr_formed (g.compound d p e f) n l =
      let x = expr_formed d n (omega arith) in
      let y = expr_formed f (behind x.0) (omega arith) in
      (y.0, (x.1, y.1))
  expr_formed (g.conditional c e d f r) n l =
      let x = expr_formed c n (omega arith) in
      let y = expr_formed d (behind x.0) (omega arith) in
      let z = expr_formed r (behind y.0) (omega arith) in
      (z.0, (x.1, y.1, z.1))
  expr_formed (g.binary d e f) n l =
      let x = expr_formed d n (omega arith) in
      let y = expr_formed f (behind x.0) (omega arith) in
      (y.0, (x.1, y.1))
  expr_formed (g.instance_of d e t) n l =
      let x = expr_formed d n (omega arith) in
      (type_named t (behind x.0), (x.1, type_formed t (behind x.0) (omega arith)))
  expr_formed (g.signed e d) n l = expr_formed d (behind n) (omega arith)
  expr_formed (g.step_before e d p) n l = expr_formed d (behind n) (omega arith)
  expr_formed (g.step_behind d p e) n l = let x = expr_formed d n (omega arith) in (behind x.0, x.1)
  expr_formed (g.cast_to_int e f b v d) n l =
      let x = expr_formed d (behind (brackets_named b (behind (behind n)))) (omega arith) in
      (x.0, (record { base = int_base; flat = omega arith }, x.1))
  expr_formed (g.cast_to_boolean e f b v d) n l =
      let x = expr_formed d (behind (brackets_named b (behind (behind n)))) (omega arith) in
      (x.0, (record { base = bool_base; flat = omega arith }, x.1))
  expr_formed (g.cast_to_class e f b v u d) n l =
      let x = expr_formed d (behind (brackets_named b (behind (behind n)))) (omega arith) in
      (x.0, (record { base = named_base (first_named (behind n) f); flat = omega arith }, x.1))
  expr_formed (g.int_literal e) n l = (behind n, tt)
  expr_formed (g.true_literal e) n l = (behind n, tt)
  expr_formed (g.false_literal e) n l = (behind n, tt)
  expr_formed (g.null_literal e) n l = (behind n, tt)
  expr_formed (g.this_value e) n l = (behind n, tt)
  expr_formed (g.paren e d f) n l = let x = expr_formed d (behind n) (omega arith) in (behind x.0, x.1)
  expr_formed (g.new_object e f d) n l =
      let x = arguments_formed d (behind (behind n)) (omega arith) in (x.0, (first_named (behind n) f, x.1))
  expr_formed (g.new_array e b f d q r) n l =
      let x = expr_formed d (behind (behind (behind n))) (omega arith) in
      (brackets_named r (behind x.0), (array_name (base_formed b (first_named (behind n))) (omega arith), x.1))
  expr_formed (g.name e) n l = (behind n, first_named n e)
  expr_formed (g.call e d) n l = let x = arguments_formed d (behind n) (omega arith) in (x.0, (first_named n e, x.1))
  expr_formed (g.super_field e f q) n l = (behind (behind (behind n)), first_named (behind (behind n)) q)
  expr_formed (g.super_call e f q d) n l =
      let x = arguments_formed d (behind (behind (behind n))) (omega arith) in (x.0, (first_named (behind (behind n)) q, x.1))
  expr_formed (g.dot d e f) n l =
      let x = expr_formed d n (omega arith) in (behind (behind x.0), (x.1, first_named (behind x.0) f))
  expr_formed (g.dot_call d e f q) n l =
      let x = expr_formed d n (omega arith) in
      let y = arguments_formed q (behind (behind x.0)) (omega arith) in
      (y.0, (x.1, first_named (behind x.0) f, y.1))
  expr_formed (g.element d f e q r) n l =
      let x = expr_formed d n (omega arith) in
      let y = expr_formed q (behind x.0) (omega arith) in
      (behind y.0, (x.1, y.1))

  -- arguments are
  pub arguments_formed : {i a : Lexemes} {es : PlainExprs} {h : ℕ} → Arguments i a es h → AreNamed i → h ≤ max_height → AreNamed a × AreFormedExprs es
  arguments_formed (g.no_arguments e f) n l = (behind (behind n), tt)
  arguments_formed (g.some_arguments e d) n l = more_formed d (behind n) l

  -- one or more arguments are
  more_formed : {i a : Lexemes} {es : PlainExprs} {h : ℕ} → MoreArguments i a es h → AreNamed i → h ≤ max_height → AreNamed a × AreFormedExprs es
  more_formed (g.last_argument d e) n l = let x = expr_formed d n l in (behind x.0, (x.1, tt))
  more_formed (g.more_arguments d e r) n l =
      let x = expr_formed d n (omega arith) in
      let y = more_formed r (behind x.0) (omega arith) in
      (y.0, (x.1, y.1))
