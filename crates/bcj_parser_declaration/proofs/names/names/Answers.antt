use Rattle.std.proofs.Common.{Ok, sym, ◌∙◌, ap, refl}
use Rattle.bcj_parser_rules.specs.declared.stop.Site.TheVariants as site
use Rattle.bcj_parser_rules.specs.function.Declarations.{one_name}
use Rattle.bcj_parser_cursor.proofs.Turns.{separated_turn, separated_end, separated_done, separated_refused, reads_passed}
use Rattle.bcj_parser_declaration.proofs.Lists.{names_read, names_refused, one_name_read, one_name_refused}
use Rattle.bcj_parser_declaration.proofs.names.names.Goals as goal

pub returns-then-not-sees : goal.returns-then-not-sees
returns-then-not-sees c = names_read _ _ _ (separated_end (one_name site.Elsewhere) _ c.len-turn-end.result c.loop-turn._turn _ _ _ c.loop-turn-test.true c.loop-turn.invariant c.if-not-sees.ensures)
    ∙ ap (λ ns. (Ok ns, c.loop-turn.cursor)) (sym c.from_vec.ensures)

pub returns-in_err-next : goal.returns-in_err-next
returns-in_err-next c = reads_passed (λ x. x) (λ ns. ns) _ _ _ _ _ c.from_residual-in_err-next.ensures.1 c.in_err-next.ensures
    (λ x o. names_refused _ _ x (separated_refused (one_name site.Elsewhere) _ c.len-turn-end.result c.loop-turn._turn _ _ _ _ x c.loop-turn-test.true c.loop-turn.invariant c.if-not-sees.ensures (one_name_refused site.Elsewhere _ _ _ x c.advance.ensures o)))

pub loop-turn-preserved : goal.loop-turn-preserved
loop-turn-preserved c = separated_turn (one_name site.Elsewhere) _ c.len-turn-end.result c.loop-turn._turn _ _ _ _ _ 0 _ _ c.loop-turn-test.true c.loop-turn.invariant c.if-not-sees.ensures
    (one_name_read site.Elsewhere _ _ _ _ c.advance.ensures c.in_ok-next.ensures) c.in_ok-push-2.ensures.items refl

pub returns : goal.returns
returns c = names_read _ _ _ (separated_done (one_name site.Elsewhere) _ c.len-turn-end.result c.loop-turn._turn _ _ _ c.loop-turn-test.false c.loop-turn.invariant) ∙ ap (λ ns. (Ok ns, c.loop-turn.cursor)) (sym c.from_vec-2.ensures)
