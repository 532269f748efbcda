use Rattle.std.proofs.Common.{◌≡◌, ℕ, List, ◌-◌}
use Rattle.std.specs.HashSet.{contains_text}
use Rattle.bcj_tables_rules.specs.Format.{reads_items}
use Rattle.bcj_tables_rules.specs.Members.{field_format, fields_format, has_field}
use Rattle.bcj_tables.proofs.reading_members.read_fields.Given as goal

abbrev pub invariant-loop-turn : goal.invariant-loop-turn
invariant-loop-turn l = record {
  read : (fields_format l.is_open).reads l.fn.cursor ≡ reads_items (λ before. field_format l.is_open (has_field before)) (l.count - l._turn) l.found l.cursor;
  seen : (q : List ℕ) → contains_text l.seen q ≡ has_field l.found q;
}
