use Rattle.std.proofs.Common.{sym, subst, rules}
use Rattle.bcj_symbolic_trees.specs.Trees as tree
use Rattle.bcj_symbolic_trees.specs.Plain.{stmt_of}
use Rattle.bcj_typing_node.specs.Typings.{pairs_of}
use Rattle.bcj_typing_effect.specs.Acts.{Makes}
use Rattle.bcj_typing_effect.proofs.Lists.{for_tree-block}
use Rattle.bcj_typing_effect.proofs.loops.begun.Goals as goal

pub returns-else-is_empty : goal.returns-else-is_empty
returns-else-is_empty c =
    subst (λ (s : tree.PlainStmt). Makes s (pairs_of c.args.turns.steps) c.led.result)
    (sym (for_tree-block c.args.first (stmt_of c.args.turns.tree) (λ h. search rules))) c.led.ensures
