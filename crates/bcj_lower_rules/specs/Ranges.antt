-- The ranges of a body: what is caught where, by labels. Those of a `try` stand behind those in its body and in its catches, its
-- own in the order of its catches; otherwise the `try` that is earlier in the text comes first.
use Rattle.std.specs.Prelude.{ℕ, ◌+◌, true, false, List, [], ◌∷◌, ◌++◌, Option, Some}
use Rattle.bcj_symbolic_trees.specs.Trees.{PlainStmt, evaluate, if_else, loop, break_loop, continue_loop, return_with, throw, try_catch, block, PlainStmts, no_stmts, more_stmts, PlainCatches, no_catches, more_catches}
use Rattle.bcj_lower_rules.specs.Nodes.{expr_labels, stmt_labels, stmts_labels, catch_count, if_labels, loop_labels, try_labels}

-- what is thrown from `start` up to `end` goes to `target`, where it is an object of the class; with no class, whatever it is
pub record LabelRange : Type 0 where
  pub start : ℕ
  pub end : ℕ
  pub target : ℕ
  pub class : Option (List ℕ)

-- the ranges of a `try` itself, with the labels of its catches from `target` on
abbrev pub own_ranges : (start end target : ℕ) → PlainCatches → List LabelRange
own_ranges start end target no_catches = []
own_ranges start end target (more_catches class i body rest) =
    record { start = start; end = end; target = target; class = Some class } ∷ own_ranges start end (target + 1) rest

abbrev mutual
  pub stmt_ranges : ℕ → PlainStmt → List LabelRange
  stmt_ranges k (evaluate e) = []
  stmt_ranges k (if_else c a b) =
      stmt_ranges (k + if_labels + expr_labels c) a ++ stmt_ranges (k + if_labels + expr_labels c + stmt_labels a) b
  stmt_ranges k (loop false c body update) = stmt_ranges (k + loop_labels + expr_labels c) body
  stmt_ranges k (loop true c body update) = stmt_ranges (k + loop_labels) body
  stmt_ranges k break_loop = []
  stmt_ranges k continue_loop = []
  stmt_ranges k (return_with v) = []
  stmt_ranges k (throw e) = []
  stmt_ranges k (try_catch body catches) =
      stmts_ranges (k + try_labels + catch_count catches) body
      ++ (catches_ranges (k + try_labels + catch_count catches + stmts_labels body) catches
      ++ own_ranges k (k + 1) (k + try_labels) catches)
  stmt_ranges k (block body) = stmts_ranges k body

  pub stmts_ranges : ℕ → PlainStmts → List LabelRange
  stmts_ranges k no_stmts = []
  stmts_ranges k (more_stmts s rest) = stmt_ranges k s ++ stmts_ranges (k + stmt_labels s) rest

  -- those in the blocks of catches
  pub catches_ranges : ℕ → PlainCatches → List LabelRange
  catches_ranges k no_catches = []
  catches_ranges k (more_catches class i body rest) = stmts_ranges k body ++ catches_ranges (k + stmts_labels body) rest
