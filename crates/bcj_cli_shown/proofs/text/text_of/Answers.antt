use Rattle.std.proofs.Common.{◌≡◌, ◌∙◌, length, ap}
use Rattle.bcj_cli_shown.proofs.Mixed.{two_linked}
use Rattle.bcj_cli_shown.proofs.text.text_of.Goals as goal

pub text_of_small-requires-clause-two : goal.text_of_small-requires-clause-two
text_of_small-requires-clause-two c =
    ap length c.as_slice.ensures ∙ two_linked _ _ c.in_ok-hier.field-0.objects c.in_ok-hier.field-0.records.classes c.in_ok-hier.ensures.ok.gathered.linked
