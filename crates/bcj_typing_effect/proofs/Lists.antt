-- Lists of what a `for` has.
use Rattle.std.proofs.Common.{◌≡◌, refl, ap, ◌∙◌, List, [], ◌∷◌, ◌++◌, map}
use Rattle.std.proofs.lemmas.List.{map-append, append-nil}
use Rattle.std.proofs.lemmas.List.Concat.{flat_map-append}
use Rattle.bcj_symbolic_trees.specs.declared.statement.SymStmt.{SymStmt}
use Rattle.bcj_symbolic_trees.specs.Trees as tree
use Rattle.bcj_symbolic_trees.specs.Units.{PlainPair}
use Rattle.bcj_symbolic_trees.specs.Plain.{expr_of, stmt_of}
use Rattle.bcj_symbolic_trees.proofs.PlainLemmas.{tree_rules}
use Rattle.bcj_typing_rules.specs.Expressions as rules
use Rattle.bcj_typing_rules.specs.Expressions.{steps_in}
use Rattle.bcj_typing_rules.specs.Statements.{block_of, for_tree}
use Rattle.bcj_typing_node.specs.declared.typing.Typing.{Typing}
use Rattle.bcj_typing_node.specs.Typings.{typing_of, typings_of, pairs_of}

-- the trees of typed expressions, and of another behind them
pub trees-more : (ts : List Typing) (t : Typing) → map (λ (u : rules.Typing). u.tree) (typings_of (ts ++ t ∷ [])) ≡ map (λ (u : rules.Typing). u.tree) (typings_of ts) ++ expr_of t.tree ∷ []
trees-more ts t =
    ap (map (λ (u : rules.Typing). u.tree)) (map-append typing_of ts (t ∷ [])) ∙ map-append (λ (u : rules.Typing). u.tree) (typings_of ts) (typing_of t ∷ [])

-- and their steps
pub steps-more : (ts : List Typing) (t : Typing) → steps_in (typings_of (ts ++ t ∷ [])) ≡ steps_in (typings_of ts) ++ pairs_of t.steps
steps-more ts t =
    ap steps_in (map-append typing_of ts (t ∷ [])) ∙ flat_map-append (λ (u : rules.Typing). u.steps) (typings_of ts) (typing_of t ∷ [])
    ∙ ap (λ (l : List PlainPair). steps_in (typings_of ts) ++ l) (append-nil (pairs_of t.steps))

pub ruleset update_rules = (trees-more, steps-more)

pub ruleset block_rules = (tree_rules, map-append)

-- where statements begin a `for`, it is a block
pub for_tree-block : (ss : List SymStmt) (turns : tree.PlainStmt) → (ss ≡ [] → ⊥) → for_tree (map stmt_of ss) turns ≡ block_of (map stmt_of ss ++ turns ∷ [])
for_tree-block [] turns h = absurd (h refl)
for_tree-block (s ∷ ss) turns h = refl
