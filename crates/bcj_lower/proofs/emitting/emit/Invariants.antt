use Rattle.std.proofs.Common.{◌≡◌, List, drop, map}
use Rattle.bcj_symbolic_measure.specs.Entries.{PlainEntry}
use Rattle.bcj_lower_bodies.specs.Views.{body_of}
use Rattle.bcj_lower.specs.function.Tables.{tables_in, tables_of}
use Rattle.bcj_lower.specs.function.Emitted.{no_parts, parts_in, with_bodies}
use Rattle.bcj_lower.proofs.emitting.emit.Given as goal

abbrev pub invariant-loop-body : goal.invariant-loop-body
invariant-loop-body l =
    (uses : List PlainEntry) → tables_in l.tables ≡ tables_of uses
    → with_bodies uses (parts_in l.emitted) (map body_of (drop l.body-index l.bodies)) ≡ with_bodies uses no_parts (map body_of l.bodies)
