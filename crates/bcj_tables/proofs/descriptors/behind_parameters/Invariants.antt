use Rattle.std.proofs.Common.{◌≡◌, ◌-◌, length}
use Rattle.bcj_tables_rules.specs.Texts as spec
use Rattle.bcj_tables.proofs.descriptors.behind_parameters.Given as goal

abbrev pub invariant-loop-turn : goal.invariant-loop-turn
invariant-loop-turn l = spec.behind_parameters (length l.text) l.text ≡ spec.behind_parameters (length l.text - l._turn) l.left
