use Rattle.std.proofs.Common.{◌≡◌, Err, rules}
use Rattle.bcj_typing_member.specs.Typed.{effects_of}
use Rattle.bcj_typing_member.proofs.Missing.{missed, found}
use Rattle.bcj_typing_member.proofs.constructor.with_first.Goals as goal

pub returns-in_err-typed : goal.returns-in_err-typed
returns-in_err-typed c =
    let failed : c.from_residual.result ≡ Err c.in_err-typed.field-0.0 = first_of (cc, search rules) in
    rw failed (missed _ _ c.in_err-typed.field-0.0 c.in_err-typed.ensures)

pub returns : goal.returns
returns c = found _ _ (effects_of c.in_ok-typed.typed) c.in_ok-typed.ensures
