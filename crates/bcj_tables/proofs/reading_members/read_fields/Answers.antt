use Rattle.std.proofs.Common.{ap, sym, ◌∙◌}
use Rattle.std.specs.HashSet.{contains_text}
use Rattle.bcj_tables_rules.specs.Members.{field_format, has_field}
use Rattle.bcj_tables.proofs.Turns.{items_turn, items_refused, items_done, reads_passed}
use Rattle.bcj_tables.proofs.MemberTurns.{field_formats, field_noted}
use Rattle.bcj_tables.proofs.reading_members.read_fields.Goals as goal

pub returns-in_err-read_field : goal.returns-in_err-read_field
returns-in_err-read_field c = reads_passed (λ x. x) (λ xs. xs) _ _ _ _ _ c.from_residual-in_err-read_field.ensures.1 c.in_err-read_field.ensures.reads
    (λ x o. items_refused (λ before. field_format c.args.is_open (has_field before)) _ c.in_ok-count.count c.loop-turn._turn _ _ _ x c.loop-turn-test.true c.loop-turn.invariant.read
    (field_formats c.args.is_open (λ q. contains_text c.loop-turn.seen q) c.loop-turn.found c.loop-turn.invariant.seen _ ∙ o))

pub loop-turn-preserved : goal.loop-turn-preserved
loop-turn-preserved c = record {
  read = items_turn (λ before. field_format c.args.is_open (has_field before)) _ c.in_ok-count.count c.loop-turn._turn _ _ _ _ _ c.loop-turn-test.true c.loop-turn.invariant.read
      (field_formats c.args.is_open (λ q. contains_text c.loop-turn.seen q) c.loop-turn.found c.loop-turn.invariant.seen _ ∙ c.in_ok-read_field.ensures.reads) c.in_ok-push.ensures.ok;
  seen = λ q. field_noted (λ p. contains_text c.loop-turn.seen p) (λ p. contains_text c.read_field.new.seen p) _ _ c.loop-turn.invariant.seen c.in_ok-read_field.ensures.seen q
      ∙ ap (λ fs. has_field fs q) (sym c.in_ok-push.ensures.ok);
}

pub returns : goal.returns
returns c = items_done (λ before. field_format c.args.is_open (has_field before)) _ c.in_ok-count.count c.loop-turn._turn _ _ c.loop-turn-test.false c.loop-turn.invariant.read
