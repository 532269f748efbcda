use Rattle.std.proofs.Common.{Ok, sym, ◌∙◌, ap, arith}
use Rattle.std.proofs.lemmas.Grind.{common_steps}
use Rattle.bcj_parser_rules.specs.function.Declarations.{parameter}
use Rattle.bcj_parser_cursor.proofs.Turns.{separated_turn, separated_end, separated_done, separated_refused, reads_passed}
use Rattle.bcj_parser_declaration.proofs.parameters.some_parameters.Goals as goal

pub returns-then-not-sees-clause-reads : goal.returns-then-not-sees-clause-reads
returns-then-not-sees-clause-reads c = separated_end (parameter c.args.room) _ c.len-turn-end.result c.loop-turn._turn _ _ _ c.loop-turn-test.true c.loop-turn.invariant.0 c.if-not-sees.ensures
    ∙ ap (λ ps. (Ok (ps, c.loop-turn.high), c.loop-turn.cursor)) (sym c.from_vec.ensures)

pub returns-in_err-next-clause-reads : goal.returns-in_err-next-clause-reads
returns-in_err-next-clause-reads c = reads_passed (λ p. p) (λ p. p) _ _ _ _ _ c.from_residual-in_err-next.ensures.1 c.in_err-next.ensures.reads
    (λ x o. separated_refused (parameter c.args.room) _ c.len-turn-end.result c.loop-turn._turn _ _ _ _ x c.loop-turn-test.true c.loop-turn.invariant.0 c.if-not-sees.ensures (ap (parameter c.args.room) (sym c.advance.ensures) ∙ o))

pub loop-turn-preserved : goal.loop-turn-preserved
loop-turn-preserved c = (
  separated_turn (parameter c.args.room) _ c.len-turn-end.result c.loop-turn._turn _ _ _ _ _ _ _ _ c.loop-turn-test.true c.loop-turn.invariant.0 c.if-not-sees.ensures
      (ap (parameter c.args.room) (sym c.advance.ensures) ∙ c.in_ok-next.ensures.reads) c.in_ok-push-2.ensures.items c.max-high.ensures,
  grind (arith, common_steps),
)

pub returns-clause-reads : goal.returns-clause-reads
returns-clause-reads c = separated_done (parameter c.args.room) _ c.len-turn-end.result c.loop-turn._turn _ _ _ c.loop-turn-test.false c.loop-turn.invariant.0 ∙ ap (λ ps. (Ok (ps, c.loop-turn.high), c.loop-turn.cursor)) (sym c.from_vec-2.ensures)
