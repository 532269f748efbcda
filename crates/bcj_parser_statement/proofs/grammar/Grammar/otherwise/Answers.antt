use Rattle.std.proofs.Common.{◌≡◌, suc, ◌+◌, max, ap, sym, ◌∙◌, Ok, None, Some, arith}
use Rattle.bcj_parser_trees.specs.Trees as tree
use Rattle.bcj_parser_trees.specs.Trees.{PlainStmt}
use Rattle.bcj_parser_trees.specs.declared.statement.Stmt.TheVariants as stmt
use Rattle.bcj_parser_trees.specs.Plain.{expr_of, stmt_of}
use Rattle.bcj_parser_trees.proofs.PlainLemmas.{stmt-If}
use Rattle.bcj_parser_rules.specs.function.Statements.{statement}
use Rattle.bcj_parser_statement.proofs.Steps.{otherwise_none, otherwise_else}
use Rattle.bcj_parser_statement.proofs.grammar.Grammar.otherwise.Goals as goal

pub returns-then-not-sees-clause-reads : goal.returns-then-not-sees-clause-reads
returns-then-not-sees-clause-reads g c =
    let node : tree.if_else c.args.at (expr_of c.args.condition.0) (stmt_of c.args.first.0) tree.no_else ≡ _ =
    ap (λ f. tree.if_else c.args.at (expr_of c.args.condition.0) (stmt_of f) tree.no_else) (sym c.in_ok-first.ensures) ∙ sym (stmt-If c.args.at c.args.condition.0 c.in_ok-first.first None) in
    let height : suc (max c.args.condition.1 c.args.first.1) ≡ c.max-height.result + 1 = omega (arith, c.max-height.ensures) in
    otherwise_none (statement c.args.self.now.room) c.args.at (expr_of c.args.condition.0, c.args.condition.1) (stmt_of c.args.first.0, c.args.first.1) c.args.cursor.now c.if-not-sees.ensures
    ∙ (λ j. (Ok (node j, height j), c.args.cursor.now))

pub returns-clause-reads : goal.returns-clause-reads
returns-clause-reads g c =
    let n = c.args.self.now.room in
    let cond = expr_of c.args.condition.0 in
    let node : tree.if_else c.args.at cond (stmt_of c.args.first.0) (tree.else_with (stmt_of c.in_ok-second.second)) ≡ stmt_of (stmt.If c.args.at c.args.condition.0 c.in_ok-first.first (Some c.in_ok-new.field-0)) =
    (λ j. tree.if_else c.args.at cond (stmt_of (sym c.in_ok-first.ensures j)) (tree.else_with (stmt_of (sym c.in_ok-new.ensures j)))) ∙ sym (stmt-If c.args.at c.args.condition.0 c.in_ok-first.first (Some c.in_ok-new.field-0)) in
    let height : suc (max c.args.condition.1 (max c.args.first.1 c.in_ok-second.second_height)) ≡ c.max-height-2.result + 1 = omega (arith, c.max-height-2.ensures, c.max.ensures) in
    otherwise_else (statement n) c.args.at (cond, c.args.condition.1) (stmt_of c.args.first.0, c.args.first.1) (stmt_of c.in_ok-second.second, c.in_ok-second.second_height) c.args.cursor.now c.advance.new.self _
    c.if-not-sees.ensures c.advance.ensures c.in_ok-second.ensures.reads
    ∙ (λ j. (Ok (node j, height j), c.statement.new.cursor))
