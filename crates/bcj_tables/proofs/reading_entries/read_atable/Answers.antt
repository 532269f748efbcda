use Rattle.bcj_tables_rules.specs.Entries.{aentry_format}
use Rattle.bcj_tables.proofs.Turns.{items_turn, items_refused, items_done, reads_passed}
use Rattle.bcj_tables.proofs.reading_entries.read_atable.Goals as goal

pub returns-in_err-read_aentry : goal.returns-in_err-read_aentry
returns-in_err-read_aentry c = reads_passed (λ x. x) (λ xs. xs) _ _ _ _ _ c.from_residual-in_err-read_aentry.ensures.1 c.in_err-read_aentry.ensures
    (λ x o. items_refused (λ _. aentry_format) _ c.in_ok-count.count c.loop-turn._turn _ _ _ x c.loop-turn-test.true c.loop-turn.invariant o)

pub loop-turn-preserved : goal.loop-turn-preserved
loop-turn-preserved c = items_turn (λ _. aentry_format) _ c.in_ok-count.count c.loop-turn._turn _ _ _ _ _ c.loop-turn-test.true c.loop-turn.invariant c.in_ok-read_aentry.ensures c.in_ok-push.ensures.ok

pub returns : goal.returns
returns c = items_done (λ _. aentry_format) _ c.in_ok-count.count c.loop-turn._turn _ _ c.loop-turn-test.false c.loop-turn.invariant
