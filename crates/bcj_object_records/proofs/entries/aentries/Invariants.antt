use Rattle.std.proofs.Common.{◌≡◌, take, map}
use Rattle.bcj_symbolic_measure.specs.function.Counts.{entry_of}
use Rattle.bcj_object_rules.specs.Records.{aentry}
use Rattle.bcj_object_records.proofs.entries.aentries.Given as goal

abbrev pub invariant-loop-entry : goal.invariant-loop-entry
invariant-loop-entry l = l.all ≡ map aentry (map entry_of (take l.entry-index l.entries))
