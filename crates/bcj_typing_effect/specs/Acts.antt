-- Typed statements in plain form, and what a call that makes one says.
use Rattle.std.specs.Prelude.{ℕ, List, map, Result}
use Rattle.bcj_symbolic_trees.specs.Trees as tree
use Rattle.bcj_symbolic_trees.specs.Plain.{stmt_of}
use Rattle.bcj_symbolic_trees.specs.Units.{PlainPair}
use Rattle.bcj_typing_rules.specs.Premises.{Need, earliest_missing}
use Rattle.bcj_typing_rules.specs.function.Expressions.{result, settled}
use Rattle.bcj_typing_node.specs.declared.miss.Miss.{Miss}
use Rattle.bcj_typing_node.specs.Typings.{pairs_of}
use Rattle.bcj_typing_node.specs.Outcomes.{Tells}
use Rattle.bcj_typing_effect.specs.declared.act.Acted.{Acted}
use Rattle.bcj_typing_effect.specs.declared.act.Acting.{Acting}

-- a symbolic statement and the steps that it uses
pub record Act : Type 0 where
  pub tree : tree.PlainStmt
  pub steps : List PlainPair

abbrev pub act : tree.PlainStmt → List PlainPair → Act
act s steps = record { tree = s; steps = steps }

abbrev pub act_of : Acted → Act
act_of a = act (stmt_of a.tree) (pairs_of a.steps)

-- the trees of several
abbrev pub trees_of : Acting → List tree.PlainStmt
trees_of a = map stmt_of a.trees

-- a statement at a first byte that needs this
abbrev pub Acts : ℕ → List Need → tree.PlainStmt → List PlainPair → Result Acted Miss → Type 0
Acts at needs s steps r = Tells act_of (settled at (earliest_missing needs) (act s steps)) r

-- one that needs nothing
abbrev pub Makes : tree.PlainStmt → List PlainPair → Result Acted Miss → Type 0
Makes s steps r = Tells act_of (result (act s steps)) r
