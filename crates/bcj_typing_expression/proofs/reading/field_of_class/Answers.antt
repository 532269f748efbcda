use Rattle.std.proofs.Common.{sym}
use Rattle.bcj_typing_expression.proofs.Arms.{behind_field_types}
use Rattle.bcj_typing_expression.proofs.reading.field_of_class.Goals as goal

pub returns-in-Some : goal.returns-in-Some
returns-in-Some c e d h em =
    behind_field_types _ _ _ _ _ _ _ _ _ _ _ d h em (sym c.in-Some.ensures.value) c.is_open-is_open.ensures c.in-Some.ensures.worth (record { judges = c.behind_field.ensures })
