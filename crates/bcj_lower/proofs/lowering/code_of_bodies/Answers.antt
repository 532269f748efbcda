use Rattle.std.proofs.Common.{map}
use Rattle.bcj_lower_rules.specs.Classes.{all_uses}
use Rattle.bcj_lower_bodies.specs.Views.{body_of}
use Rattle.bcj_lower.specs.function.Tables.{tables_in}
use Rattle.bcj_lower.specs.function.Emitted.{parts_in}
use Rattle.bcj_lower.proofs.EmittedLemmas.{code-built}
use Rattle.bcj_lower.proofs.lowering.code_of_bodies.Goals as goal

pub returns : goal.returns
returns c =
    code-built (map body_of c.args.bodies.now) (tables_in c.in_ok-tables.tables) (parts_in c.in_ok-emitted.emitted) c.in_ok-tables.ensures
    (c.in_ok-emitted.ensures (all_uses (map body_of c.args.bodies.now)) c.in_ok-tables.ensures)
