use Rattle.std.proofs.Common.{rules, arith, ap, ◌∙◌, sym, map}
use Rattle.std.proofs.lemmas.Grind.{common_steps}
use Rattle.bcj_parser_trees.specs.Plain.{expr_of}
use Rattle.bcj_parser_rules.specs.function.Expressions.{separated, expression, fresh}
use Rattle.bcj_parser_cursor.proofs.Turns.{separated_turn, separated_end}
use Rattle.bcj_parser_expression.proofs.Turns.{one_more, map_push}
use Rattle.bcj_parser_expression.proofs.grammar.Grammar.separated.Goals as goal

pub returns-then-not-sees-clause-reads : goal.returns-then-not-sees-clause-reads
returns-then-not-sees-clause-reads g c = separated_end (expression c.args.self.now.room fresh 1) _ c.len-turn-end.result c.loop-turn._turn _ _ _ c.loop-turn-test.true c.loop-turn.invariant.0 c.if-not-sees.ensures

pub returns-in_err-next-clause-reads : goal.returns-in_err-next-clause-reads
unfolding separated
returns-in_err-next-clause-reads g c =
    let e = one_more (λ n. separated (expression c.args.self.now.room fresh 1) n (map expr_of c.loop-turn.found) c.loop-turn.high c.loop-turn.cursor) _ c.loop-turn._turn c.loop-turn-test.true c.loop-turn.invariant.0 in
    first_of (search rules, grind (arith, common_steps))

pub loop-turn-preserved : goal.loop-turn-preserved
loop-turn-preserved g c = (
  separated_turn (expression c.args.self.now.room fresh 1) _ c.len-turn-end.result c.loop-turn._turn _ _ _ _ _ _ _ _ c.loop-turn-test.true c.loop-turn.invariant.0 c.if-not-sees.ensures
      (ap (expression c.args.self.now.room fresh 1) (sym c.advance.ensures) ∙ c.in_ok-next.ensures.reads) (ap (map expr_of) c.in_ok-push.ensures.ok ∙ map_push expr_of _ _) c.max-high.ensures,
  omega (arith, c.max-high.ensures, c.in_ok-next.ensures.low, c.loop-turn.invariant.1),
)
