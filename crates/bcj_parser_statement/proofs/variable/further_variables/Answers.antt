use Rattle.std.proofs.Common.{◌≡◌, map, ap, sym, ◌∙◌, Err, rules, arith, ℕ, Vec, Global}
use Rattle.bcj_parser_statement.specs.declared.variable.Variable.{Variable}
use Rattle.std.proofs.lemmas.Grind.{common_steps}
use Rattle.std.proofs.lemmas.List.{map-append}
use Rattle.bcj_parser_rules.specs.function.Expressions.{expression}
use Rattle.bcj_parser_rules.specs.function.Statements.{further_variable}
use Rattle.bcj_parser_cursor.proofs.Turns.{separated_turn, separated_end, separated_stop, separated_done}
use Rattle.bcj_parser_statement.specs.function.Variables.{variable_of}
use Rattle.bcj_parser_statement.proofs.variable.further_variables.Goals as goal

pub loop-turn-preserved : goal.loop-turn-preserved
loop-turn-preserved c = record {
  low = grind (arith, common_steps);
  reads = separated_turn (further_variable (expression c.args.room)) _ c.len-turn-end.result c.loop-turn._turn _ _ _ _ _ _ _ _ c.loop-turn-test.true c.loop-turn.invariant.reads c.if-not-sees.ensures
      (ap (further_variable (expression c.args.room)) (sym c.advance.ensures) ∙ c.in_ok-next.ensures.reads) (ap (map variable_of) c.in_ok-push.ensures.items ∙ map-append _ _ _) c.max-high.ensures;
}

pub returns-then-not-sees-clause-reads : goal.returns-then-not-sees-clause-reads
returns-then-not-sees-clause-reads c = separated_end (further_variable (expression c.args.room)) _ c.len-turn-end.result c.loop-turn._turn _ _ _ c.loop-turn-test.true c.loop-turn.invariant.reads c.if-not-sees.ensures

pub returns-in_err-next-clause-reads : goal.returns-in_err-next-clause-reads
returns-in_err-next-clause-reads c =
    let failed : c.from_residual.result ≡ Err c.in_err-next.field-0.0 = first_of (cc, search rules) in
    rw failed (separated_stop (further_variable (expression c.args.room)) (λ (p : Variable × ℕ). (variable_of p.0, p.1)) (λ (p : Vec Variable Global × ℕ). (map variable_of p.0.items, p.1)) _ c.len-turn-end.result c.loop-turn._turn _ _ _ _ _ _ c.loop-turn-test.true c.loop-turn.invariant.reads c.if-not-sees.ensures
    c.advance.ensures c.in_err-next.ensures.reads)

pub returns-clause-reads : goal.returns-clause-reads
returns-clause-reads c = separated_done (further_variable (expression c.args.room)) _ c.len-turn-end.result c.loop-turn._turn _ _ _ c.loop-turn-test.false c.loop-turn.invariant.reads
