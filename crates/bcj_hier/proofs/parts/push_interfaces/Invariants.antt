use Rattle.std.proofs.Common.{◌≡◌, ◌++◌, true, map, drop}
use Rattle.bcj_hier.specs.Numbers.{part_of}
use Rattle.bcj_hier.proofs.parts.push_interfaces.Given as goal

abbrev pub invariant-loop-name : goal.invariant-loop-name
invariant-loop-name l = l.parts ++ map (part_of l.names true) (drop l.name-index l.interfaces) ≡ l.fn.parts ++ map (part_of l.names true) l.interfaces
