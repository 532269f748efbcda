use Rattle.std.proofs.Common.{sym, ◌∙◌, ap}
use Rattle.bcj_tables_rules.specs.Members.{is_length}
use Rattle.bcj_tables.proofs.MemberTurns.{length_within}
use Rattle.bcj_tables.proofs.reading_members.read_code.Goals as goal

pub returns-clause-within : goal.returns-clause-within
returns-clause-within c =
    let t = c.in_ok-words.ensures.tested in
    length_within c.args.turn.now c.args.kind c.in_ok-words.words c.requires.order
    (ap (is_length c.args.turn.now c.args.kind) (t.1 ∙ sym c.next_word-2.ensures) ∙ (sym c.is_length-good.ensures ∙ t.0))
