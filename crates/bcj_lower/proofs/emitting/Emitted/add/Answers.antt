use Rattle.std.proofs.Common.{sym, subst, ◌≡◌}
use Rattle.std.proofs.lemmas.Result.{on_ok_weaker}
use Rattle.bcj_lower_bodies.specs.declared.body.BodyCode.{BodyCode}
use Rattle.bcj_lower_bodies.specs.Views.{body_of}
use Rattle.bcj_lower.specs.function.Emitted.{parts_in, with_body}
use Rattle.bcj_lower.proofs.emitting.Emitted.add.Goals as goal

pub returns-in-WithoutCode : goal.returns-in-WithoutCode
returns-in-WithoutCode c =
    on_ok_weaker c.skip.result
    (λ added uses h. let P : BodyCode → Type 0 = λ b. parts_in c.skip.new.self ≡ with_body uses (parts_in c.args.self.now) (body_of b) in subst P (sym c.in-WithoutCode.is) (added uses))
    c.skip.ensures
