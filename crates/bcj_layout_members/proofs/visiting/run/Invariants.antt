use Rattle.bcj_layout_members.specs.Tables.{IsTable, Reached}
use Rattle.bcj_layout_members.proofs.visiting.run.Given as goal

abbrev pub invariant-loop : goal.invariant-loop
invariant-loop l = record { table : IsTable l.classes l.rows l.places.items; reached : Reached l.classes l.rows l.counter }
