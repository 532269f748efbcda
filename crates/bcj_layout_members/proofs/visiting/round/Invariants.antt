use Rattle.std.proofs.Common.{◌<◌, ℕ}
use Rattle.bcj_layout_members.specs.Tables.{IsTable, Keeps, Fills}
use Rattle.bcj_layout_members.proofs.visiting.round.Given as goal

abbrev pub invariant-loop-k : goal.invariant-loop-k
invariant-loop-k l =
    record {
      table : IsTable l.classes l.rows l.places.items;
      keeps : Keeps l.initial.rows l.rows;
      fills : (j : ℕ) → j < l.k → Fills l.classes l.initial.rows l.rows j;
    }
