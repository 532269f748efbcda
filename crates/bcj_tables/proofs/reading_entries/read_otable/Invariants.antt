use Rattle.std.proofs.Common.{◌≡◌, ◌-◌}
use Rattle.bcj_tables_rules.specs.Entries.{oentry_format}
use Rattle.bcj_tables_rules.specs.Format.{plain_list, reads_items}
use Rattle.bcj_tables.proofs.reading_entries.read_otable.Given as goal

abbrev pub invariant-loop-turn : goal.invariant-loop-turn
invariant-loop-turn l = (plain_list (oentry_format)).reads l.fn.cursor ≡ reads_items (λ _. oentry_format) (l.count - l._turn) l.found l.cursor
