use Rattle.std.proofs.Common.{◌≡◌, Err, rules}
use Rattle.bcj_typing_member.specs.Typed.{added_of}
use Rattle.bcj_typing_member.proofs.Missing.{missed, found}
use Rattle.bcj_typing_member.proofs.constructor.with_unwritten.Goals as goal

pub returns-in_err-first : goal.returns-in_err-first
returns-in_err-first c =
    let failed : c.from_residual.result ≡ Err c.in_err-first.field-0.0 = first_of (cc, search rules) in
    rw failed (missed _ _ c.in_err-first.field-0.0 c.in_err-first.ensures)

pub returns : goal.returns
returns c = found _ _ (added_of c.in_ok-first.first) c.in_ok-first.ensures
