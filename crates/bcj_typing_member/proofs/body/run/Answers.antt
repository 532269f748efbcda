use Rattle.std.proofs.Common.{◌≡◌, Err, rules}
use Rattle.bcj_typing_member.proofs.body.run.Goals as goal

pub returns-in_err-acting : goal.returns-in_err-acting
returns-in_err-acting c =
    let failed : c.from_residual.result ≡ Err c.in_err-acting.field-0.0 = first_of (cc, search rules) in
    rw failed c.in_err-acting.ensures.told
