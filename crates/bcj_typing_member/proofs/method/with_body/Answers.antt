use Rattle.std.proofs.Common.{◌≡◌, ◌∙◌, Err, rules, ap, sym}
use Rattle.bcj_typing_rules.specs.function.Expressions.{result}
use Rattle.bcj_typing_rules.specs.function.Members.{typed_method}
use Rattle.bcj_typing_member.specs.Typed.{effects_of}
use Rattle.bcj_typing_member.proofs.Missing.{missed, found}
use Rattle.bcj_typing_member.proofs.method.with_body.Goals as goal

pub returns-in_err-typed : goal.returns-in_err-typed
returns-in_err-typed c =
    let failed : c.from_residual.result ≡ Err c.in_err-typed.field-0.0 = first_of (cc, search rules) in
    rw failed (missed _ _ c.in_err-typed.field-0.0 c.in_err-typed.ensures)

pub returns : goal.returns
returns c = found _ _ (effects_of c.in_ok-typed.typed) c.in_ok-typed.ensures ∙ ap (λ m. result (typed_method m)) (sym c.made.ensures)
