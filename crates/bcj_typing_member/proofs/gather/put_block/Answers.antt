use Rattle.std.proofs.Common.{◌≡◌, ◌∙◌, Err, rules, ap, sym}
use Rattle.bcj_typing_rules.specs.function.Expressions.{result, and_then}
use Rattle.bcj_typing_rules.specs.function.Members.{typed_block}
use Rattle.bcj_typing_member.specs.Gathered.{outcome_map, with_member}
use Rattle.bcj_typing_member.specs.Typed.{members_of}
use Rattle.bcj_typing_member.proofs.Missing.{missed}
use Rattle.bcj_typing_member.proofs.gather.put_block.Goals as goal

pub returns-in_err-typed : goal.returns-in_err-typed
returns-in_err-typed c =
    let failed : c.from_residual.result ≡ Err c.in_err-typed.field-0.0 = first_of (cc, search rules) in
    rw failed (missed _ _ c.in_err-typed.field-0.0 (missed _ _ c.in_err-typed.field-0.0 c.in_err-typed.ensures))

pub returns : goal.returns
returns c =
    ap (λ o. outcome_map (with_member (members_of c.args.members)) (and_then o (λ b. result (typed_block b)))) c.in_ok-typed.ensures ∙ ap (λ x. result x) (sym c.in_ok-with_block.ensures)
