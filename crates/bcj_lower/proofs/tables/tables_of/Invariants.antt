use Rattle.std.proofs.Common.{◌≡◌, drop, map}
use Rattle.bcj_lower_rules.specs.Classes.{all_uses}
use Rattle.bcj_lower_bodies.specs.Views.{body_of}
use Rattle.bcj_lower.specs.function.Tables.{no_tables, tables_in, with_uses}
use Rattle.bcj_lower.proofs.tables.tables_of.Given as goal

abbrev pub invariant-loop-body : goal.invariant-loop-body
invariant-loop-body l = with_uses (tables_in l.tables) (all_uses (map body_of (drop l.body-index l.bodies))) ≡ with_uses no_tables (all_uses (map body_of l.bodies))
