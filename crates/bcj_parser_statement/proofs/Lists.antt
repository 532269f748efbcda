-- The nodes of a list that grows.
use Rattle.std.proofs.Common.{◌≡◌, ℕ, List, [], ◌∷◌, ◌++◌, ap, refl}
use Rattle.bcj_parser_trees.specs.declared.names.TypeName.{TypeName}
use Rattle.bcj_parser_trees.specs.Trees as tree
use Rattle.bcj_parser_trees.specs.Trees.{PlainExpr}
use Rattle.bcj_parser_rules.specs.Grammar.{Variable, at_of}
use Rattle.bcj_parser_rules.specs.function.Statements.{local_nodes, evaluation_nodes}

pub local_nodes-append : (at : ℕ) (ty : TypeName) (vs : List Variable) (v : Variable) → local_nodes at ty (vs ++ v ∷ []) ≡ local_nodes at ty vs ++ tree.local_variable at ty v.name v.init ∷ []
local_nodes-append at ty [] v = refl
local_nodes-append at ty (u ∷ vs) v = ap (λ l. tree.local_variable at ty u.name u.init ∷ l) (local_nodes-append at ty vs v)

pub evaluation_nodes-append : (es : List PlainExpr) (e : PlainExpr) → evaluation_nodes (es ++ e ∷ []) ≡ evaluation_nodes es ++ tree.evaluate (at_of e) e ∷ []
evaluation_nodes-append [] e = refl
evaluation_nodes-append (x ∷ es) e = ap (λ l. tree.evaluate (at_of x) x ∷ l) (evaluation_nodes-append es e)
