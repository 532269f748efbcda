use Rattle.std.proofs.Common.{◌≡◌, ◌-◌}
use Rattle.bcj_tables_rules.specs.Entries.{range_format}
use Rattle.bcj_tables_rules.specs.Format.{plain_list, reads_items}
use Rattle.bcj_tables.proofs.reading_entries.read_ranges.Given as goal

abbrev pub invariant-loop-turn : goal.invariant-loop-turn
invariant-loop-turn l = (plain_list (range_format l.methods)).reads l.fn.cursor ≡ reads_items (λ _. range_format l.methods) (l.count - l._turn) l.found l.cursor
