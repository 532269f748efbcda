-- The next of a list of statements or of catches, and its end.
use Rattle.std.proofs.Common.{◌≡◌, ap, sym, ◌∙◌, ℕ, ◌+◌, ◌<◌, ◌≤◌, List, drop, length, get_or}
use Rattle.std.proofs.lemmas.List.{drop_more, drop_all}
use Rattle.bcj_parser_trees.specs.Trees.{no_stmts, more_stmts, no_catches, more_catches}
use Rattle.bcj_parser_trees.specs.declared.statement.Stmt.{Stmt}
use Rattle.bcj_parser_trees.specs.declared.statement.Catch.{Catch}
use Rattle.bcj_parser_trees.specs.Plain.{stmt_of, stmts_of, catch_of, catches_of}

-- statements from a place on begin with the one there
pub stmts_next : (xs : List Stmt) (i : ℕ) (d : Stmt) → i < length xs → d ≡ get_or xs i d → stmts_of (drop i xs) ≡ more_stmts (stmt_of d) (stmts_of (drop (i + 1) xs))
stmts_next xs i d h is = ap stmts_of (drop_more xs i d h) ∙ ap (λ (x : Stmt). more_stmts (stmt_of x) (stmts_of (drop (i + 1) xs))) (sym is)

-- none stands behind the last
pub stmts_end : (xs : List Stmt) (i : ℕ) → length xs ≤ i → stmts_of (drop i xs) ≡ no_stmts
stmts_end xs i h = ap stmts_of (drop_all i xs h)

-- catches from a place on begin with the one there
pub catches_next : (xs : List Catch) (i : ℕ) (d : Catch) → i < length xs → d ≡ get_or xs i d → catches_of (drop i xs) ≡ more_catches (catch_of d) (catches_of (drop (i + 1) xs))
catches_next xs i d h is = ap catches_of (drop_more xs i d h) ∙ ap (λ (x : Catch). more_catches (catch_of x) (catches_of (drop (i + 1) xs))) (sym is)

-- none stands behind the last
pub catches_end : (xs : List Catch) (i : ℕ) → length xs ≤ i → catches_of (drop i xs) ≡ no_catches
catches_end xs i h = ap catches_of (drop_all i xs h)
