-- The program that is built of a unit, as a function of the forms of its nodes. `Laws` ties it to the relation.
use Rattle.std.specs.Prelude.{ℕ, nat_le, List, [], ◌∷◌, Option, None, Some, option_and_then, if◌then◌else◌}
use Rattle.bcj_cli_language.specs.declared.tree.Operator.{Operator}
use Rattle.bcj_cli_language.specs.declared.tree.Comparison.{Comparison}
use Rattle.bcj_cli_language.specs.Tree.{Sum, number, local, binary as binary_sum, Test, Act, print, declare, assign as assign_act, choose, repeat, Acts, nil, cons}
use Rattle.bcj_parser_trees.specs.Trees.{PlainExpr, int_literal, simple_name, paren, dot_call, binary, assign, PlainExprs, no_exprs, more_exprs, PlainOption, absent, present, PlainStmt, local_variable, block, evaluate, if_else, while_loop, PlainStmts, no_stmts, more_stmts, PlainElse, no_else, else_with, PlainBody, no_body, with_body, PlainMember, method_member, PlainUnit}
use Rattle.bcj_cli_language.specs.Bounds.{max_int}
use Rattle.bcj_cli_unit.specs.Kinds.{operator, comparison}

abbrev pub with_both : {A B C : Type 0} → (A → B → C) → Option A → Option B → Option C
with_both f a b = option_and_then (λ x. option_and_then (λ y. Some (f x y)) b) a

abbrev pub with_operator : Option Operator → Option Sum → Option Sum → Option Sum
with_operator o a b = option_and_then (λ x. option_and_then (λ y. option_and_then (λ op. Some (binary_sum op x y)) o) b) a

abbrev pub sum_built : PlainExpr → Option Sum
sum_built (int_literal at n decimal) = if nat_le n max_int then Some (number n) else None
sum_built (simple_name at x) = Some (local x)
sum_built (paren at e) = sum_built e
sum_built (binary at o l r) = with_operator (operator o) (sum_built l) (sum_built r)
sum_built _ = None

abbrev pub with_comparison : Option Comparison → Option Sum → Option Sum → Option Test
with_comparison c a b = option_and_then (λ x. option_and_then (λ y. option_and_then (λ k. Some (record { comparison = k; left = x; right = y })) c) b) a

abbrev pub test_built : PlainExpr → Option Test
test_built (binary at o l r) = with_comparison (comparison o) (sum_built l) (sum_built r)
test_built _ = None

abbrev pub print_built : PlainExprs → Option Act
print_built (more_exprs e no_exprs) = option_and_then (λ s. Some (print s)) (sum_built e)
print_built _ = None

abbrev pub assign_built : PlainExpr → PlainExpr → Option Act
assign_built (simple_name at x) e = option_and_then (λ s. Some (assign_act x s)) (sum_built e)
assign_built _ e = None

abbrev pub evaluation_built : PlainExpr → Option Act
evaluation_built (dot_call at target x es) = print_built es
evaluation_built (assign at o place e) = assign_built place e
evaluation_built _ = None

abbrev pub declaration_built : List ℕ → PlainOption → Option Act
declaration_built x absent = None
declaration_built x (present e) = option_and_then (λ s. Some (declare x s)) (sum_built e)

abbrev pub choice_built : Option Test → Option Acts → Option Acts → Option Act
choice_built t a b = option_and_then (λ c. option_and_then (λ p. option_and_then (λ q. Some (choose c p q)) b) a) t

abbrev pub loop_built : Option Test → Option Acts → Option Act
loop_built t a = option_and_then (λ c. option_and_then (λ p. Some (repeat c p)) a) t

abbrev mutual
  pub act_built : PlainStmt → Option Act
  act_built (local_variable at ty x init) = declaration_built x init
  act_built (evaluate at e) = evaluation_built e
  act_built (if_else at c first second) = choice_built (test_built c) (block_built first) (else_built second)
  act_built (while_loop at c s) = loop_built (test_built c) (block_built s)
  act_built _ = None

  pub acts_built : PlainStmts → Option Acts
  acts_built no_stmts = Some nil
  acts_built (more_stmts s ss) = with_both cons (act_built s) (acts_built ss)

  pub block_built : PlainStmt → Option Acts
  block_built (block at ss) = acts_built ss
  block_built _ = None

  pub else_built : PlainElse → Option Acts
  else_built no_else = Some nil
  else_built (else_with s) = block_built s

abbrev pub body_built : PlainBody → Option Acts
body_built no_body = None
body_built (with_body ss) = acts_built ss

abbrev pub member_built : PlainMember → Option Acts
member_built (method_member at mods ty x params throws body) = body_built body
member_built _ = None

abbrev pub members_built : List PlainMember → Option Acts
members_built (m ∷ []) = member_built m
members_built _ = None

abbrev pub program_built : PlainUnit → Option Acts
program_built (t ∷ []) = members_built t.members
program_built _ = None
