use Rattle.std.proofs.Common.{◌≡◌, ◌≤◌, ℕ, ◌+◌, List, ◌-◌, length}
use Rattle.std.specs.HashSet.{contains_text}
use Rattle.bcj_tables_rules.specs.Format.{reads_items}
use Rattle.bcj_tables_rules.specs.Members.{method_format, methods_format, has_method, turn_of, code_behind, none_named}
use Rattle.bcj_tables.proofs.reading_members.read_methods.Given as goal

abbrev pub invariant-loop-at : goal.invariant-loop-at
invariant-loop-at l = record {
  read : (methods_format l.place l.is_open).reads l.fn.cursor ≡ reads_items (λ before. method_format (turn_of l.place l.count before) l.is_open (has_method before)) (l.count - l.at) l.found l.cursor;
  size : length l.found ≡ l.at;
  seen : (q : List ℕ) → contains_text l.seen q ≡ has_method l.found q;
  code : l.code ≡ code_behind l.place.code l.found;
  constructs : l.may_construct ≡ none_named l.found;
  within : l.code ≤ l.place.code + l.place.code_size;
}
