use Rattle.bcj_tables_rules.specs.Entries.{pair_format}
use Rattle.bcj_tables.proofs.Turns.{items_turn, items_refused, items_done, reads_passed}
use Rattle.bcj_tables.proofs.reading_entries.read_pairs.Goals as goal

pub returns-in_err-read_pair : goal.returns-in_err-read_pair
returns-in_err-read_pair c = reads_passed (λ x. x) (λ xs. xs) _ _ _ _ _ c.from_residual-in_err-read_pair.ensures.1 c.in_err-read_pair.ensures
    (λ x o. items_refused (λ _. pair_format) _ c.in_ok-count.count c.loop-turn._turn _ _ _ x c.loop-turn-test.true c.loop-turn.invariant o)

pub loop-turn-preserved : goal.loop-turn-preserved
loop-turn-preserved c = items_turn (λ _. pair_format) _ c.in_ok-count.count c.loop-turn._turn _ _ _ _ _ c.loop-turn-test.true c.loop-turn.invariant c.in_ok-read_pair.ensures c.in_ok-push.ensures.ok

pub returns : goal.returns
returns c = items_done (λ _. pair_format) _ c.in_ok-count.count c.loop-turn._turn _ _ c.loop-turn-test.false c.loop-turn.invariant
