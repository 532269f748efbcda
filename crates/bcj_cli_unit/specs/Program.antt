-- Which program a unit is. One line for each form; places and grouping parentheses mean nothing.
use Rattle.std.specs.Prelude.{◌≡◌, ℕ, suc, ◌+◌, ◌≤◌, Bool, true, false, List, [], ◌∷◌, None, Some, codes}
use Rattle.bcj_cli_language.specs.declared.tree.Operator.{Operator}
use Rattle.bcj_cli_language.specs.declared.tree.Comparison.{Comparison}
use Rattle.bcj_cli_language.specs.Tree.{Sum, number, local, binary as binary_sum, Test, Act, print, declare, assign as assign_act, choose, repeat, Acts, nil, cons}
use Rattle.bcj_cli_language.specs.Scopes.{AreScoped, declared_in, blocks_in}
use Rattle.bcj_parser_trees.specs.declared.names.Base.TheVariants as base
use Rattle.bcj_parser_trees.specs.declared.names.TypeName.{TypeName}
use Rattle.bcj_parser_trees.specs.declared.names.Access.TheVariants as access
use Rattle.bcj_parser_trees.specs.declared.names.Mods.{Mods}
use Rattle.bcj_parser_trees.specs.declared.expression.BinOp.{BinOp}
use Rattle.bcj_parser_trees.specs.Trees.{PlainExpr, int_literal, simple_name, paren, dot, dot_call, binary, assign, no_exprs, more_exprs, present, PlainStmt, local_variable, block, evaluate, if_else, while_loop, PlainStmts, no_stmts, more_stmts, PlainElse, no_else, else_with, with_body, PlainMember, method_member, PlainUnit}
use Rattle.bcj_cli_language.specs.Bounds.{max_int, max_blocks, max_locals}
use Rattle.bcj_cli_unit.specs.Limits.{max_parentheses}
use Rattle.bcj_cli_unit.specs.Kinds.{operator, comparison, tightness, is_among, boot_types}

-- Parentheses may nest d deep, and an operator binds at least as tight as v. In a tree of a text what stands to the right
-- of an operator binds tighter, or is in parentheses (JLS 15.7).
pub data IsSum : ℕ → ℕ → PlainExpr → Sum → Type 0 where
  a_number : {v d at n : ℕ} {decimal : Bool} → n ≤ max_int → IsSum v d (int_literal at n decimal) (number n)
  a_local : {v d at : ℕ} {x : List ℕ} → IsSum v d (simple_name at x) (local x)
  grouped : {v d at : ℕ} {e : PlainExpr} {s : Sum} → IsSum 0 d e s → IsSum v (suc d) (paren at e) s
  joined : {v d at : ℕ} {o : BinOp} {op : Operator} {l r : PlainExpr} {a b : Sum} → operator o ≡ Some op → v ≤ tightness o
      → IsSum (tightness o) d l a → IsSum (tightness o + 1) d r b → IsSum v d (binary at o l r) (binary_sum op a b)

abbrev pub IsWholeSum : PlainExpr → Sum → Type 0
IsWholeSum = IsSum 0 max_parentheses

pub data IsTest : PlainExpr → Test → Type 0 where
  compared : {at : ℕ} {o : BinOp} {c : Comparison} {l r : PlainExpr} {a b : Sum} → comparison o ≡ Some c → IsWholeSum l a → IsWholeSum r b
      → IsTest (binary at o l r) (record { comparison = c; left = a; right = b })

-- `System.out`, whose nodes stand at these places
abbrev pub standard_output : ℕ → ℕ → PlainExpr
standard_output i j = dot i (simple_name j (codes "System")) (codes "out")

abbrev pub int_type : TypeName
int_type = record { base = base.Int; dims = 0 }

mutual
  pub data IsStatement : PlainStmt → Act → Type 0 where
    prints : {at i j k : ℕ} {e : PlainExpr} {s : Sum} → IsWholeSum e s
        → IsStatement (evaluate at (dot_call i (standard_output j k) (codes "println") (more_exprs e no_exprs))) (print s)
    declares : {at : ℕ} {x : List ℕ} {e : PlainExpr} {s : Sum} → IsWholeSum e s → IsStatement (local_variable at int_type x (present e)) (declare x s)
    assigns : {at i j : ℕ} {x : List ℕ} {e : PlainExpr} {s : Sum} → IsWholeSum e s → IsStatement (evaluate at (assign i None (simple_name j x) e)) (assign_act x s)
    chooses : {at : ℕ} {c : PlainExpr} {first : PlainStmt} {second : PlainElse} {t : Test} {p q : Acts} → IsTest c t → IsBlock first p → IsElse second q
        → IsStatement (if_else at c first second) (choose t p q)
    repeats : {at : ℕ} {c : PlainExpr} {body : PlainStmt} {t : Test} {p : Acts} → IsTest c t → IsBlock body p → IsStatement (while_loop at c body) (repeat t p)

  pub data AreStatements : PlainStmts → Acts → Type 0 where
    none : AreStatements no_stmts nil
    more : {s : PlainStmt} {ss : PlainStmts} {a : Act} {p : Acts} → IsStatement s a → AreStatements ss p → AreStatements (more_stmts s ss) (cons a p)

  pub data IsBlock : PlainStmt → Acts → Type 0 where
    a_block : {at : ℕ} {ss : PlainStmts} {p : Acts} → AreStatements ss p → IsBlock (block at ss) p

  -- where no `else` is written the second block is empty
  pub data IsElse : PlainElse → Acts → Type 0 where
    without : IsElse no_else nil
    with_block : {s : PlainStmt} {p : Acts} → IsBlock s p → IsElse (else_with s) p

abbrev pub static_alone : Mods
static_alone = record { access = access.Open; is_static = true; is_abstract = false; is_final = false }

abbrev pub void_type : TypeName
void_type = record { base = base.Void; dims = 0 }

-- `static void main() { .. }`
abbrev pub main_method : ℕ → PlainStmts → PlainMember
main_method at ss = method_member at static_alone void_type (codes "main") [] [] (with_body ss)

-- one class of this name, with its `main` alone
pub data IsClass (main : List ℕ) : PlainUnit → Acts → Type 0 where
  a_class : {at i : ℕ} {ss : PlainStmts} {p : Acts} → is_among boot_types main ≡ false → AreStatements ss p
      → IsClass main (record { at = at; interface = false; is_abstract = false; name = main; extends = []; implements = []; members = main_method i ss ∷ [] } ∷ []) p

-- the unit is the program p, whose class is `main`
pub record IsProgramOf (main : List ℕ) (unit : PlainUnit) (p : Acts) : Type 0 where
  pub is_class : IsClass main unit p
  pub scoped : AreScoped [] p
  pub declared : declared_in p ≤ max_locals
  pub blocks : blocks_in p ≤ max_blocks
