use Rattle.std.proofs.Common.{◌≡◌, not, map, ap, ◌∙◌, Err, rules, arith, ℕ, Vec, Global}
use Rattle.bcj_parser_trees.specs.declared.statement.Stmt.{Stmt}
use Rattle.std.proofs.lemmas.Grind.{common_steps}
use Rattle.std.proofs.lemmas.List.{map-append}
use Rattle.bcj_parser_trees.specs.Plain.{stmt_of}
use Rattle.bcj_parser_rules.specs.function.Statements.{statement, block_statement, is_inside, statements_from}
use Rattle.bcj_parser_cursor.proofs.Turns.{many_turn, many_end, many_stop, many_done}
use Rattle.bcj_parser_statement.proofs.grammar.Grammar.statements_from.Goals as goal

pub loop-turn-preserved : goal.loop-turn-preserved
loop-turn-preserved g c = record {
  low = grind (arith, common_steps);
  reads = many_turn is_inside (block_statement c.args.self.now.room (statement c.args.self.now.room)) _ c.len-turn-end.result c.loop-turn._turn _ _ _ _ _ _ _ _ c.loop-turn-test.true c.loop-turn.invariant.reads
      (ap not c.if-sees.ensures) c.in_ok-nodes.ensures.reads (ap (map stmt_of) c.in_ok-append.ensures.items ∙ map-append _ _ _) c.max-high.ensures;
}

pub returns-then-sees-clause-reads : goal.returns-then-sees-clause-reads
unfolding statements_from
returns-then-sees-clause-reads g c = many_end is_inside (block_statement c.args.self.now.room (statement c.args.self.now.room)) _ c.len-turn-end.result c.loop-turn._turn _ _ _ c.loop-turn-test.true c.loop-turn.invariant.reads
    (ap not c.if-sees.ensures)

pub returns-in_err-nodes-clause-reads : goal.returns-in_err-nodes-clause-reads
unfolding statements_from
returns-in_err-nodes-clause-reads g c =
    let failed : c.from_residual.result ≡ Err c.in_err-nodes.field-0.0 = first_of (cc, search rules) in
    rw failed (many_stop is_inside (block_statement c.args.self.now.room (statement c.args.self.now.room)) (λ (p : Vec Stmt Global × ℕ). (map stmt_of p.0.items, p.1)) (λ (p : Vec Stmt Global × ℕ). (map stmt_of p.0.items, p.1)) _ c.len-turn-end.result c.loop-turn._turn _ _ _ _ _ c.loop-turn-test.true c.loop-turn.invariant.reads
    (ap not c.if-sees.ensures) c.in_err-nodes.ensures.reads)

pub returns-clause-reads : goal.returns-clause-reads
unfolding statements_from
returns-clause-reads g c = many_done is_inside (block_statement c.args.self.now.room (statement c.args.self.now.room)) _ c.len-turn-end.result c.loop-turn._turn _ _ _ c.loop-turn-test.false c.loop-turn.invariant.reads
