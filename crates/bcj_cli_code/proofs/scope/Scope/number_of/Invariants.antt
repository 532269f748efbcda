use Rattle.std.proofs.Common.{◌≡◌, take, reverse}
use Rattle.bcj_cli_code.specs.function.Slots.{slot_of}
use Rattle.bcj_cli_code.proofs.scope.Scope.number_of.Given as goal

abbrev pub invariant-loop-i : goal.invariant-loop-i
invariant-loop-i l = slot_of l.self.slots l.name ≡ slot_of (reverse (take l.i l.self-inside.locals.items)) l.name
