use Rattle.std.proofs.Common.{rules, ◌≡◌, ap, ◌∙◌, w32, to_z, of_z}
use Rattle.std.specs.Prelude.{ℤ}
use Rattle.std.proofs.lemmas.Result.{on_ok_weaker}
use Rattle.bcj_asm.specs.Assembly.{aimed}
use Rattle.bcj_asm.proofs.Emitting.{short_emitted, long_emitted}
use Rattle.bcj_asm.proofs.assembling.emit_branch.Goals as goal

pub returns-in-Short-clause-words : goal.returns-in-Short-clause-words
returns-in-Short-clause-words c =
    let e : to_z w32 (of_z w32 c.distance.result) ≡ c.distance.result = search rules in
    on_ok_weaker c.push.result
    (short_emitted c.args.code.now c.push.new.self c.args.form c.args.instr c.aimed.result c.encode.result
    c.len-here.result c.args.to c.in-Short.is c.len-here.ensures
    (c.aimed.ensures.exact ∙ ap (λ (z : ℤ). aimed c.args.instr z) (e ∙ c.distance.ensures.exact)) c.encode.ensures)
    c.push.ensures.ok

pub returns-in_ok-push-in-Long-clause-words : goal.returns-in_ok-push-in-Long-clause-words
returns-in_ok-push-in-Long-clause-words c =
    on_ok_weaker c.push-in-Long-2.result
    (long_emitted c.args.code.now c.push-in-Long.new.self c.push-in-Long-2.new.self c.args.form c.args.instr
    c.turned.result c.jump.result c.encode-in-Long.result c.encode-in-Long-2.result c.len-here.result c.args.to
    c.in-Long.is c.len-here.ensures c.turned.ensures.exact c.encode-in-Long.ensures c.in_ok-push-in-Long.ensures.ok
    c.jump.ensures.exact c.encode-in-Long-2.ensures)
    c.push-in-Long-2.ensures.ok
