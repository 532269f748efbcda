use Rattle.bcj_names.specs.Identifiers.{is_identifier}
use Rattle.bcj_tables_rules.specs.Format.{text_field}
use Rattle.bcj_tables.proofs.Turns.{items_turn, items_refused, items_done, reads_passed}
use Rattle.bcj_tables.proofs.reading_entries.read_names.Goals as goal

pub returns-in_err-read_name : goal.returns-in_err-read_name
returns-in_err-read_name c = reads_passed (λ x. x) (λ xs. xs) _ _ _ _ _ c.from_residual-in_err-read_name.ensures.1 c.in_err-read_name.ensures
    (λ x o. items_refused (λ _. text_field is_identifier) _ c.in_ok-count.count c.loop-turn._turn _ _ _ x c.loop-turn-test.true c.loop-turn.invariant o)

pub loop-turn-preserved : goal.loop-turn-preserved
loop-turn-preserved c = items_turn (λ _. text_field is_identifier) _ c.in_ok-count.count c.loop-turn._turn _ _ _ _ _ c.loop-turn-test.true c.loop-turn.invariant c.in_ok-read_name.ensures c.in_ok-push.ensures.ok

pub returns : goal.returns
returns c = items_done (λ _. text_field is_identifier) _ c.in_ok-count.count c.loop-turn._turn _ _ c.loop-turn-test.false c.loop-turn.invariant
