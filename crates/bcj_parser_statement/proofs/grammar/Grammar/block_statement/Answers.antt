use Rattle.std.proofs.Common.{◌≡◌, ℕ, suc, ◌-◌, ap, ◌∙◌, map, Ok, Err, rules, arith, Vec, Global}
use Rattle.bcj_parser_trees.specs.declared.statement.Stmt.{Stmt}
use Rattle.bcj_parser_trees.specs.Plain.{stmt_of}
use Rattle.bcj_parser_rules.specs.function.Steps.{then_read}
use Rattle.bcj_parser_rules.specs.function.Statements.{statement, block_statement, block_evaluation}
use Rattle.bcj_parser_expression.specs.function.Begin.{begin_of}
use Rattle.bcj_parser_statement.specs.function.Openings.{resumed}
use Rattle.bcj_parser_statement.specs.function.Views.{opening_of}
use Rattle.bcj_parser_statement.proofs.Openings.{block_statement_is, first_stop}
use Rattle.bcj_parser_statement.proofs.grammar.Grammar.block_statement.Goals as goal

pub returns-in_err-nodes-clause-reads : goal.returns-in_err-nodes-clause-reads
returns-in_err-nodes-clause-reads g c =
    let n = c.args.self.now.room in
    let e : n ≡ suc (n - 1) = omega arith in
    let failed : c.from_residual.result ≡ Err c.in_err-nodes.field-0.0 = first_of (cc, search rules) in
    rw failed (first_stop opening_of (λ (p : Vec Stmt Global × ℕ). (map stmt_of p.0.items, p.1)) (resumed (block_evaluation (n - 1) (statement n))) _ _ _ _ (block_statement_is n (n - 1) (statement n) c.args.cursor.now e) c.in_err-nodes.ensures.reads)

pub returns-in-Declared-clause-reads : goal.returns-in-Declared-clause-reads
returns-in-Declared-clause-reads g c =
    let n = c.args.self.now.room in
    let e : n ≡ suc (n - 1) = omega arith in
    let go = resumed (block_evaluation (n - 1) (statement n)) in
    block_statement_is n (n - 1) (statement n) c.args.cursor.now e ∙ ap (λ r. then_read r go) c.in_ok-nodes.ensures.reads ∙ ap (λ o. then_read (Ok (opening_of o), c.local_opening.new.cursor) go) c.in-Declared.is

pub returns-in-Begun-clause-reads : goal.returns-in-Begun-clause-reads
returns-in-Begun-clause-reads g c =
    let n = c.args.self.now.room in
    let e : n ≡ suc (n - 1) = omega arith in
    let go = resumed (block_evaluation (n - 1) (statement n)) in
    let whole : block_statement n (statement n) c.args.cursor.now ≡ block_evaluation (n - 1) (statement n) (begin_of c.in-Begun.begin) c.local_opening.new.cursor =
    block_statement_is n (n - 1) (statement n) c.args.cursor.now e ∙ ap (λ r. then_read r go) c.in_ok-nodes.ensures.reads ∙ ap (λ o. then_read (Ok (opening_of o), c.local_opening.new.cursor) go) c.in-Begun.is in
    rw whole c.block_evaluation.ensures.reads
