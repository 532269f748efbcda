use Rattle.std.proofs.Common.{◌≡◌, ◌-◌, true}
use Rattle.bcj_tables_rules.specs.Entries.{member_format}
use Rattle.bcj_tables_rules.specs.Format.{plain_list, reads_items}
use Rattle.bcj_tables.proofs.reading_entries.read_itable.Given as goal

abbrev pub invariant-loop-turn : goal.invariant-loop-turn
invariant-loop-turn l = (plain_list (member_format true)).reads l.fn.cursor ≡ reads_items (λ _. member_format true) (l.count - l._turn) l.found l.cursor
