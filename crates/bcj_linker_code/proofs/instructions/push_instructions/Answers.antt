use Rattle.bcj_linker_code.proofs.Encoded.{none, each_in_range, one_more}
use Rattle.bcj_linker_code.proofs.instructions.push_instructions.Goals as goal

pub loop-instruction-init : goal.loop-instruction-init
loop-instruction-init c = none c.args.words.now

pub encode-requires : goal.encode-requires
encode-requires c = each_in_range c.args.instructions.now c.loop-instruction.instruction-index _ c.requires c.loop-instruction-test.true

pub loop-instruction-preserved : goal.loop-instruction-preserved
loop-instruction-preserved c =
    one_more c.args.words.now c.loop-instruction.words c.push.new.self c.args.instructions.now c.loop-instruction.instruction-index _ c.encode.result c.loop-instruction-test.true c.encode.ensures.word
    c.in_ok-push.ensures.ok c.loop-instruction.invariant
