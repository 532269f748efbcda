use Rattle.std.proofs.Common.{◌≡◌, ◌-◌}
use Rattle.bcj_names.specs.Identifiers.{is_identifier}
use Rattle.bcj_tables_rules.specs.Format.{plain_list, reads_items, text_field}
use Rattle.bcj_tables.proofs.reading_entries.read_names.Given as goal

abbrev pub invariant-loop-turn : goal.invariant-loop-turn
invariant-loop-turn l = (plain_list (text_field is_identifier)).reads l.fn.cursor ≡ reads_items (λ _. text_field is_identifier) (l.count - l._turn) l.found l.cursor
