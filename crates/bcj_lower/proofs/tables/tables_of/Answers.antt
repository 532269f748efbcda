use Rattle.std.proofs.Common.{◌∙◌, List, map}
use Rattle.bcj_lower_rules.specs.Classes.{all_uses, body_uses}
use Rattle.bcj_lower_bodies.specs.declared.body.BodyCode.{BodyCode}
use Rattle.bcj_lower_bodies.specs.Views.{body_of}
use Rattle.bcj_lower.specs.function.Tables.{PlainTables, with_uses}
use Rattle.bcj_lower.proofs.StepLemmas.{state_more, state_done}
use Rattle.bcj_lower.proofs.TableLemmas.{with_uses-append, tables-filled}
use Rattle.bcj_lower.proofs.tables.tables_of.Goals as goal

pub loop-body-preserved : goal.loop-body-preserved
loop-body-preserved c =
    state_more (λ (t : PlainTables) (bs : List BodyCode). with_uses t (all_uses (map body_of bs)))
    (λ t b. with_uses t (body_uses (body_of b)))
    (λ t b bs. with_uses-append t (body_uses (body_of b)) (all_uses (map body_of bs)))
    _ _ _ _ _ _ c.loop-body-test.true c.body-item.is c.in_ok-note_body.ensures c.loop-body.invariant

pub returns : goal.returns
returns c =
    state_done (λ (t : PlainTables) (bs : List BodyCode). with_uses t (all_uses (map body_of bs))) _ _ _ _ c.loop-body-test.false c.loop-body.invariant
    ∙ tables-filled (all_uses (map body_of c.args.bodies.now))
