use Rattle.std.proofs.Common.{◌≡◌, ◌-◌}
use Rattle.bcj_tables_rules.specs.Entries.{centry_format}
use Rattle.bcj_tables_rules.specs.Format.{plain_list, reads_items}
use Rattle.bcj_tables.proofs.reading_entries.read_ctable.Given as goal

abbrev pub invariant-loop-turn : goal.invariant-loop-turn
invariant-loop-turn l = (plain_list (centry_format)).reads l.fn.cursor ≡ reads_items (λ _. centry_format) (l.count - l._turn) l.found l.cursor
