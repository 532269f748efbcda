use Rattle.std.proofs.Common.{◌≡◌, map, ap, ◌∙◌, Err, rules, arith, ℕ, Vec, Global, [], ◌∷◌}
use Rattle.bcj_parser_trees.specs.declared.statement.Catch.{Catch}
use Rattle.std.proofs.lemmas.Grind.{common_steps}
use Rattle.std.proofs.lemmas.List.{map-append}
use Rattle.bcj_parser_trees.specs.Plain.{catch_of}
use Rattle.bcj_parser_rules.specs.declared.kind.Mark.TheVariants as mark
use Rattle.bcj_parser_rules.specs.Marks.{is_mark}
use Rattle.bcj_parser_rules.specs.function.Statements.{statement, catch_clause}
use Rattle.bcj_parser_cursor.proofs.Turns.{many_turn, many_end, many_stop, many_done}
use Rattle.bcj_parser_statement.proofs.grammar.Grammar.further_catches.Goals as goal

pub loop-turn-preserved : goal.loop-turn-preserved
loop-turn-preserved g c = record {
  low = grind (arith, common_steps);
  reads = many_turn (is_mark mark.Catch) (catch_clause c.args.self.now.room (statement c.args.self.now.room)) _ c.len-turn-end.result c.loop-turn._turn _ _ _ _ _ _ _ _ c.loop-turn-test.true c.loop-turn.invariant.reads
      c.if-not-sees.ensures c.in_ok-next.ensures.reads (ap (map catch_of) c.in_ok-push.ensures.items ∙ map-append _ _ _) c.max-high.ensures;
}

pub returns-then-not-sees-clause-reads : goal.returns-then-not-sees-clause-reads
returns-then-not-sees-clause-reads g c = many_end (is_mark mark.Catch) (catch_clause c.args.self.now.room (statement c.args.self.now.room)) _ c.len-turn-end.result c.loop-turn._turn _ _ _ c.loop-turn-test.true c.loop-turn.invariant.reads
    c.if-not-sees.ensures

pub returns-in_err-next-clause-reads : goal.returns-in_err-next-clause-reads
returns-in_err-next-clause-reads g c =
    let failed : c.from_residual.result ≡ Err c.in_err-next.field-0.0 = first_of (cc, search rules) in
    rw failed (many_stop (is_mark mark.Catch) (catch_clause c.args.self.now.room (statement c.args.self.now.room)) (λ (p : Catch × ℕ). (catch_of p.0 ∷ [], p.1)) (λ (p : Vec Catch Global × ℕ). (map catch_of p.0.items, p.1)) _ c.len-turn-end.result c.loop-turn._turn _ _ _ _ _ c.loop-turn-test.true c.loop-turn.invariant.reads
    c.if-not-sees.ensures c.in_err-next.ensures.reads)

pub returns-clause-reads : goal.returns-clause-reads
returns-clause-reads g c = many_done (is_mark mark.Catch) (catch_clause c.args.self.now.room (statement c.args.self.now.room)) _ c.len-turn-end.result c.loop-turn._turn _ _ _ c.loop-turn-test.false c.loop-turn.invariant.reads
