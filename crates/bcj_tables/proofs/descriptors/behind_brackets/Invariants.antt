use Rattle.std.proofs.Common.{◌≡◌, ◌-◌}
use Rattle.bcj_tables_rules.specs.Texts as spec
use Rattle.bcj_tables.proofs.descriptors.behind_brackets.Given as goal

abbrev pub invariant-loop-turn : goal.invariant-loop-turn
invariant-loop-turn l = spec.behind_brackets 255 l.text ≡ spec.behind_brackets (255 - l._turn) l.left
