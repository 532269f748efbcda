use Rattle.std.proofs.Common.{◌≡◌, drop, map}
use Rattle.bcj_lower_rules.specs.Classes.{line_uses}
use Rattle.bcj_lower_words.specs.Views.{line_of}
use Rattle.bcj_lower.specs.function.Tables.{tables_in, with_uses}
use Rattle.bcj_lower.proofs.tables.Tables.note_lines.Given as goal

abbrev pub invariant-loop-line : goal.invariant-loop-line
invariant-loop-line l = with_uses (tables_in l.self) (line_uses (map line_of (drop l.line-index l.lines))) ≡ with_uses (tables_in l.fn.self) (line_uses (map line_of l.lines))
