use Rattle.std.proofs.Common.{sym, ap, ◌∙◌}
use Rattle.std.specs.Prelude.{◌||◌}
use Rattle.std.specs.Str.{bytes_eq}
use Rattle.std.specs.HashSet.{contains_text}
use Rattle.bcj_tables_rules.specs.Members.{member_key}
use Rattle.bcj_tables.proofs.reading_members.read_desc.Goals as goal

pub returns-clause-seen : goal.returns-clause-seen
returns-clause-seen c =
    let key = c.in_ok-key.ensures ∙ ap (member_key c.args.name.now) (c.next_text.ensures ∙ sym c.in_ok-desc.ensures.value) in
    λ q. c.in_ok-note.ensures q ∙ ap (λ k. contains_text c.args.seen.now q || bytes_eq k q) key
