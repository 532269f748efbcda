use Rattle.std.proofs.lemmas.Result.{on_ok_weaker}
use Rattle.bcj_asm.specs.function.Places.{named_place}
use Rattle.bcj_asm.proofs.Emitting.{word_emitted, jump_emitted}
use Rattle.bcj_asm.proofs.assembling.emit.Goals as goal

pub returns-in-Word-clause-words : goal.returns-in-Word-clause-words
returns-in-Word-clause-words c =
    on_ok_weaker c.push.result
    (word_emitted (named_place c.args.labels.now.named) c.args.code.now c.push.new.self c.args.formed.now.form
    c.args.formed.now.item c.in-Word.instr c.encode.result c.in-Word.is c.encode.ensures)
    c.push.ensures.ok

pub returns-in-Jump-clause-words : goal.returns-in-Jump-clause-words
returns-in-Jump-clause-words c =
    on_ok_weaker c.push-in-Jump.result
    (jump_emitted (named_place c.args.labels.now.named) c.args.code.now c.push-in-Jump.new.self c.args.formed.now.form
    c.args.formed.now.item c.in-Jump.rd c.in-Jump.to c.jump.result c.encode-in-Jump.result c.len.result c.target.result
    c.in-Jump.is c.len.ensures c.target.ensures c.jump.ensures.exact c.encode-in-Jump.ensures)
    c.push-in-Jump.ensures.ok
