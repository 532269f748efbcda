use Rattle.std.proofs.Common.{◌≡◌, ◌+◌, drop}
use Rattle.bcj_tables_rules.specs.Texts as spec
use Rattle.bcj_tables.proofs.descriptors.semicolon_at.Given as goal

abbrev pub invariant-loop-i : goal.invariant-loop-i
invariant-loop-i l = spec.semicolon_at l.text ≡ l.i + spec.semicolon_at (drop l.i l.text)
