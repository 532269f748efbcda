use Rattle.std.proofs.Common.{true}
use Rattle.bcj_tables_rules.specs.Entries.{member_format}
use Rattle.bcj_tables.proofs.Turns.{items_turn, items_refused, items_done, reads_passed}
use Rattle.bcj_tables.proofs.reading_entries.read_itable.Goals as goal

pub returns-in_err-read_member : goal.returns-in_err-read_member
returns-in_err-read_member c = reads_passed (λ x. x) (λ xs. xs) _ _ _ _ _ c.from_residual-in_err-read_member.ensures.1 c.in_err-read_member.ensures
    (λ x o. items_refused (λ _. member_format true) _ c.in_ok-count.count c.loop-turn._turn _ _ _ x c.loop-turn-test.true c.loop-turn.invariant o)

pub loop-turn-preserved : goal.loop-turn-preserved
loop-turn-preserved c = items_turn (λ _. member_format true) _ c.in_ok-count.count c.loop-turn._turn _ _ _ _ _ c.loop-turn-test.true c.loop-turn.invariant c.in_ok-read_member.ensures c.in_ok-push.ensures.ok

pub returns : goal.returns
returns c = items_done (λ _. member_format true) _ c.in_ok-count.count c.loop-turn._turn _ _ c.loop-turn-test.false c.loop-turn.invariant
