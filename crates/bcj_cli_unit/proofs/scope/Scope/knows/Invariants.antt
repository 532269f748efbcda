use Rattle.std.proofs.Common.{◌≡◌, take, reverse}
use Rattle.bcj_cli_unit.specs.Kinds.{is_among}
use Rattle.bcj_cli_unit.proofs.scope.Scope.knows.Given as goal

abbrev pub invariant-loop-i : goal.invariant-loop-i
invariant-loop-i l = is_among l.self.names l.name ≡ is_among (reverse (take l.i l.self-inside.names.items)) l.name
