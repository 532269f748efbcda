use Rattle.bcj_tables_rules.specs.Entries.{range_format}
use Rattle.bcj_tables.proofs.Turns.{items_turn, items_refused, items_done, reads_passed}
use Rattle.bcj_tables.proofs.reading_entries.read_ranges.Goals as goal

pub returns-in_err-read_range : goal.returns-in_err-read_range
returns-in_err-read_range c = reads_passed (λ x. x) (λ xs. xs) _ _ _ _ _ c.from_residual-in_err-read_range.ensures.1 c.in_err-read_range.ensures
    (λ x o. items_refused (λ _. range_format c.args.methods.now) _ c.in_ok-count.count c.loop-turn._turn _ _ _ x c.loop-turn-test.true c.loop-turn.invariant o)

pub loop-turn-preserved : goal.loop-turn-preserved
loop-turn-preserved c = items_turn (λ _. range_format c.args.methods.now) _ c.in_ok-count.count c.loop-turn._turn _ _ _ _ _ c.loop-turn-test.true c.loop-turn.invariant c.in_ok-read_range.ensures c.in_ok-push.ensures.ok

pub returns : goal.returns
returns c = items_done (λ _. range_format c.args.methods.now) _ c.in_ok-count.count c.loop-turn._turn _ _ c.loop-turn-test.false c.loop-turn.invariant
